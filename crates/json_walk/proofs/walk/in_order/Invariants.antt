use Rattle.std.proofs.Common.{◌≡◌, ◌++◌}
use Rattle.json_walk.proofs.walk.in_order.Given as goal

abbrev pub invariant-loop-path : goal.invariant-loop-path
invariant-loop-path l = l.paths.items ++ l.path-iterator ≡ l.initial.path-iterator
