use Rattle.std.proofs.Common.{◌<◌, ◌≤◌, ◌-◌, length}
use Rattle.column_block.specs.Spelling.{ordinal}
use Rattle.column_block.proofs.table.ordinal_of.Given as goal

abbrev pub invariant-loop-low : goal.invariant-loop-low
invariant-loop-low l = record {
  low : l.low ≤ ordinal l.texts l.text;
  high : ordinal l.texts l.text < l.high;
  within : l.high ≤ length l.texts;
}

abbrev pub decreases-loop-low : goal.decreases-loop-low
decreases-loop-low l = l.high - l.low
