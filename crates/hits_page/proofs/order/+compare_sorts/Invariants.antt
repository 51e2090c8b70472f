use Rattle.std.proofs.Common.{length}
use Rattle.hits_page.proofs.order.+compare_sorts.Given as goal

abbrev pub decreases-compare_sorts : goal.decreases-compare_sorts
decreases-compare_sorts l = length l.keys.now
