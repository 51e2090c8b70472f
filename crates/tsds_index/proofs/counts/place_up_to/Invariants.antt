use Rattle.std.proofs.Common.{◌≤◌, ◌-◌, length, take, drop}
use Rattle.tsds_index.specs.Places.{place_row}
use Rattle.tsds_index.specs.Ranges.{AllBehind, NoneBehind}
use Rattle.tsds_index.proofs.counts.place_up_to.Given as goal

abbrev pub invariant-loop-low : goal.invariant-loop-low
invariant-loop-low l = record {
  ordered : l.low ≤ l.high;
  within : l.high ≤ length l.rows;
  before : NoneBehind (place_row l.key l.time) (take l.low l.rows);
  behind : AllBehind (place_row l.key l.time) (drop l.high l.rows);
}

abbrev pub decreases-loop-low : goal.decreases-loop-low
decreases-loop-low l = l.high - l.low
