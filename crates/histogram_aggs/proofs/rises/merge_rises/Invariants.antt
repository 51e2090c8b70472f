use Rattle.std.proofs.Common.{◌≡◌, ℕ, ℤ, List}
use Rattle.std.specs.BTreeMap.{btree_map_len, get}
use Rattle.std.specs.Cmp.Lexicographic.{slice_cmp}
use Rattle.std.specs.Ordering.{nat_cmp}
use Rattle.fold_law.specs.Rises.{join_present_rises}
use Rattle.histogram_aggs.specs.Rises.{rise_held}
use Rattle.histogram_aggs.proofs.rises.merge_rises.Given as goal

-- what is kept so far, with what is left in front, is what is kept of both
abbrev pub invariant-loop-key : goal.invariant-loop-key
invariant-loop-key l =
    (k : List ℕ) (p : ℤ × ℤ) → join_present_rises (rise_held (get (slice_cmp nat_cmp) l.others k) p) (rise_held (get (slice_cmp nat_cmp) l.rises k) p)
    ≡ join_present_rises (rise_held (get (slice_cmp nat_cmp) l.initial.others k) p) (rise_held (get (slice_cmp nat_cmp) l.initial.rises k) p)

abbrev pub decreases-loop-key : goal.decreases-loop-key
decreases-loop-key l = btree_map_len l.others
