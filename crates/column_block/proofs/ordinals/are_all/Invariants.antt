use Rattle.std.proofs.Common.{◌<◌, ℕ, false, get_or}
use Rattle.std.specs.Prelude.{IsTrue}
use Rattle.column_block.proofs.ordinals.are_all.Given as goal

abbrev pub invariant-loop-mark : goal.invariant-loop-mark
invariant-loop-mark l = (k : ℕ) → k < l.mark-index → IsTrue (get_or l.seen k false)
