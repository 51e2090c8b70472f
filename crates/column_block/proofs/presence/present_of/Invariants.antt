use Rattle.std.proofs.Common.{◌≡◌, take}
use Rattle.column_block.specs.Presence.{present}
use Rattle.column_block.proofs.presence.present_of.Given as goal

abbrev pub invariant-loop-row : goal.invariant-loop-row
invariant-loop-row g l = l.values.items ≡ present (take l.row-index l.rows)
