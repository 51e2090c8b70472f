use Rattle.std.proofs.Common.{◌≡◌, ◌++◌, ◌/◌, take, drop}
use Rattle.std.specs.Prelude.{map}
use Rattle.column_pack.proofs.pack.divide.Given as goal

abbrev pub invariant-loop-i : goal.invariant-loop-i
invariant-loop-i l = l.numbers ≡ map (λ x. x / l.by) (take l.i l.fn.numbers) ++ drop l.i l.fn.numbers
