use Rattle.std.proofs.Common.{◌≡◌, ℕ, List}
use Rattle.std.specs.Prelude.{◌+ℤ◌}
use Rattle.std.specs.BTreeMap.{btree_map_len}
use Rattle.histogram_aggs.specs.Rises.{RisesStand}
use Rattle.histogram_aggs.specs.Samples.{Sample}
use Rattle.histogram_aggs.proofs.RiseSteps.{AreFoundIn, sum_over}
use Rattle.histogram_aggs.proofs.rises.increase_of.Given as goal

-- the series that are left are those of their keys, and the sum so far and theirs are the sum of all
abbrev pub invariant-loop-series : goal.invariant-loop-series
invariant-loop-series l =
    AreFoundIn l.initial.rises l.rises.entries
    × ((place : ℕ) (xs : List Sample) → RisesStand place l.initial.rises xs → l.sum +ℤ sum_over place xs l.rises.entries ≡ sum_over place xs l.initial.rises.entries)

abbrev pub decreases-loop-series : goal.decreases-loop-series
decreases-loop-series l = btree_map_len l.rises
