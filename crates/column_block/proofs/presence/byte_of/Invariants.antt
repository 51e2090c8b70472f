use Rattle.std.proofs.Common.{◌≡◌, ◌-◌, map, drop, length}
use Rattle.column_pack.specs.Digits.{number}
use Rattle.column_block.specs.Presence.{bit, flags_of}
use Rattle.column_block.proofs.presence.byte_of.Given as goal

abbrev pub invariant-loop-row : goal.invariant-loop-row
invariant-loop-row g l = l.byte ≡ number 2 (drop (length l.rows - l.row) (map bit (flags_of l.rows)))
