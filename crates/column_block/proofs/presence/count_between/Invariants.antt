use Rattle.std.proofs.Common.{◌≡◌, ◌+◌, ◌-◌, ◌≤◌}
use Rattle.column_block.specs.Presence.{ones, flags_in}
use Rattle.column_block.proofs.presence.count_between.Given as goal

abbrev pub invariant-loop-row : goal.invariant-loop-row
invariant-loop-row l = record {
  count : ones (flags_in l.row l.bytes) ≡ ones (flags_in l.from l.bytes) + l.count;
  few : l.count ≤ l.row - l.from;
}
