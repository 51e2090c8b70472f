use Rattle.std.proofs.Common.{ℕ}
use Rattle.column_pack.specs.Factor.{IsGcdOf}
use Rattle.column_pack.proofs.scan.gcd.Given as goal

abbrev pub invariant-loop-y : goal.invariant-loop-y
invariant-loop-y l = (g : ℕ) → IsGcdOf l.x l.y g → IsGcdOf l.fn.a l.fn.b g

abbrev pub decreases-loop-y : goal.decreases-loop-y
decreases-loop-y l = l.y
