use Rattle.std.proofs.Common.{ℤ, List, ◌-◌, ◌<◌, ◌≤◌, ◌+◌, ◌*◌, ◌^◌, get_or, pos}
use Rattle.std.specs.Prelude.{◌≤ℤ◌, ◌<ℤ◌, max}
use Rattle.packed_lists.specs.Decoded.{AreBlocksAt}
use Rattle.packed_lists.proofs.cuts.block_edge.Given as goal

abbrev pub invariant-loop-low : goal.invariant-loop-low
invariant-loop-low g l = record {
  low : l.first ≤ l.low;
  order : l.low ≤ l.high;
  high : l.high ≤ l.last;
  before : (vs : List ℤ) → AreBlocksAt l.bytes l.places vs → l.first < l.low → l.bound ≤ℤ get_or vs (128 * l.low) (pos 0);
  behind : (vs : List ℤ) → AreBlocksAt l.bytes l.places vs → l.high < l.last → get_or vs (128 * (l.high + 1)) (pos 0) <ℤ l.bound;
  counted : l.fn.steps ≤ l.steps;
  rest : l.low < l.high → 2 ^ (l.steps - l.fn.steps) * (l.high - l.low) ≤ l.last - l.first;
  cost : 2 ^ (l.steps - l.fn.steps) ≤ max 1 (2 * (l.last - l.first));
}

abbrev pub decreases-loop-low : goal.decreases-loop-low
decreases-loop-low g l = l.high - l.low
