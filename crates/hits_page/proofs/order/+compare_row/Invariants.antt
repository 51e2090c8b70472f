use Rattle.std.proofs.Common.{length}
use Rattle.hits_page.proofs.order.+compare_row.Given as goal

abbrev pub decreases-compare_row : goal.decreases-compare_row
decreases-compare_row l = length l.keys.now
