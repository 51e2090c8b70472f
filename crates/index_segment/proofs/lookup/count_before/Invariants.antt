use Rattle.std.proofs.Common.{◌≡◌, ◌≢◌, ℕ, ◌<◌, ◌≤◌, ◌-◌, [], length, slice_index_or}
use Rattle.std.specs.Ordering.{nat_cmp}
use Rattle.std.specs.Cmp.Lexicographic.{slice_cmp}
use Rattle.std.specs.declared.cmp.Ordering.TheVariants.{Less}
use Rattle.index_segment.proofs.lookup.count_before.Given as goal

abbrev pub invariant-loop-low : goal.invariant-loop-low
invariant-loop-low l = record {
  ordered : l.low ≤ l.high;
  within : l.high ≤ length l.keys;
  before : (k : ℕ) → k < l.low → slice_cmp nat_cmp (slice_index_or l.keys k []) l.key ≡ Less;
  behind : (k : ℕ) → l.high ≤ k → k < length l.keys → slice_cmp nat_cmp (slice_index_or l.keys k []) l.key ≢ Less;
}

abbrev pub decreases-loop-low : goal.decreases-loop-low
decreases-loop-low l = l.high - l.low
