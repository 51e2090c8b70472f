use Rattle.std.proofs.Common.{◌-◌, ◌<◌, ◌≤◌, get_or, pos, length}
use Rattle.std.specs.Prelude.{◌≤ℤ◌, ◌<ℤ◌}
use Rattle.packed_lists.proofs.cuts.edge.Given as goal

abbrev pub invariant-loop-low : goal.invariant-loop-low
invariant-loop-low l = record {
  order : l.low ≤ l.high;
  high : l.high ≤ length l.numbers;
  before : 0 < l.low → l.bound ≤ℤ get_or l.numbers (l.low - 1) (pos 0);
  behind : l.high < length l.numbers → get_or l.numbers l.high (pos 0) <ℤ l.bound;
}

abbrev pub decreases-loop-low : goal.decreases-loop-low
decreases-loop-low l = l.high - l.low
