use Rattle.std.proofs.Common.{◌≡◌, ℤ}
use Rattle.std.specs.BTreeMap.{btree_map_len, get}
use Rattle.fold_law.specs.Rises.{join_present_rises}
use Rattle.histogram_aggs.specs.Rises.{moment_cmp}
use Rattle.histogram_aggs.proofs.rises.merge_series.Given as goal

-- what is kept so far, with what is left in front, is what is kept of both
abbrev pub invariant-loop-at : goal.invariant-loop-at
invariant-loop-at l =
    (p : ℤ × ℤ) → join_present_rises (get moment_cmp l.other p) (get moment_cmp l.series p) ≡ join_present_rises (get moment_cmp l.initial.other p) (get moment_cmp l.initial.series p)

abbrev pub decreases-loop-at : goal.decreases-loop-at
decreases-loop-at l = btree_map_len l.other
