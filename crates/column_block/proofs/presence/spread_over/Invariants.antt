use Rattle.std.proofs.Common.{◌≡◌, ◌++◌, ◌≤◌, drop, length}
use Rattle.column_block.specs.Presence.{ones, flags_in, spread}
use Rattle.column_block.proofs.presence.spread_over.Given as goal

abbrev pub invariant-loop-row : goal.invariant-loop-row
invariant-loop-row g l = record {
  rows : l.rows.items ++ spread (drop l.row (flags_in l.to l.bytes)) (drop l.next l.values) ≡ spread (drop l.from (flags_in l.to l.bytes)) l.values;
  few : l.next ≤ l.row;
  as_many : length (drop l.next l.values) ≡ ones (drop l.row (flags_in l.to l.bytes));
}
