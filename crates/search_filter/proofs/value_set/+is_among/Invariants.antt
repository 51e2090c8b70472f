use Rattle.std.proofs.Common.{length}
use Rattle.search_filter.proofs.value_set.+is_among.Given as goal

abbrev pub decreases-is_among : goal.decreases-is_among
decreases-is_among l = length l.values.now
