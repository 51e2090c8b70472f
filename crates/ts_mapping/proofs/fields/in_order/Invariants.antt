use Rattle.std.proofs.Common.{◌≡◌, ◌++◌}
use Rattle.ts_mapping.specs.Sorted.{fields_in}
use Rattle.ts_mapping.proofs.fields.in_order.Given as goal

abbrev pub invariant-loop-path : goal.invariant-loop-path
invariant-loop-path l = l.fields.items ++ fields_in l.path-iterator ≡ fields_in l.initial.path-iterator
