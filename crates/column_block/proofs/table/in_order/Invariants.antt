use Rattle.std.proofs.Common.{◌≡◌, ◌++◌}
use Rattle.column_block.proofs.table.in_order.Given as goal

abbrev pub invariant-loop-text : goal.invariant-loop-text
invariant-loop-text l = l.texts.items ++ l.text-iterator ≡ l.initial.text-iterator
