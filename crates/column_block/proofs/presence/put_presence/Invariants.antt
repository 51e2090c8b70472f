use Rattle.std.proofs.Common.{◌≡◌, ◌++◌, length}
use Rattle.column_block.specs.Presence.{presence, flags_of}
use Rattle.column_block.proofs.presence.put_presence.Given as goal

abbrev pub invariant-loop-left : goal.invariant-loop-left
invariant-loop-left g l = l.into.items ++ presence (flags_of l.left) ≡ l.fn.into.items ++ presence (flags_of l.rows)

abbrev pub decreases-loop-left : goal.decreases-loop-left
decreases-loop-left g l = length l.left
