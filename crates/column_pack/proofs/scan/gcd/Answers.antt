use Rattle.column_pack.proofs.Divisors.{IsGcdOf-step, IsGcdOf-end}
use Rattle.column_pack.proofs.scan.gcd.Goals as goal

pub loop-y-preserved : goal.loop-y-preserved
loop-y-preserved c = λ g h. c.loop-y.invariant g (IsGcdOf-step c.loop-y.x c.loop-y.y g h)

pub returns : goal.returns
returns c = c.loop-y.invariant c.loop-y.x (IsGcdOf-end c.loop-y.x c.loop-y.y c.loop-y-test.false)
