use Rattle.std.proofs.Common.{arith, take, get_or, subst, sym}
use Rattle.std.proofs.lemmas.List.{take_more}
use Rattle.column_pack.specs.Factor.{IsDivisor}
use Rattle.column_pack.proofs.Divisors.{IsDivisor-one, IsDivisor-more}
use Rattle.column_pack.proofs.scan.common_divisor.Goals as goal

pub returns-then-divisor-eq1 : goal.returns-then-divisor-eq1
returns-then-divisor-eq1 c = IsDivisor-one c.args.numbers.now c.loop-number.number-index (subst (λ d. IsDivisor d (take c.loop-number.number-index c.args.numbers.now)) c.if-divisor-eq1.true c.loop-number.invariant)

pub loop-number-preserved : goal.loop-number-preserved
loop-number-preserved c =
    let xs = c.args.numbers.now in
    let i = c.loop-number.number-index in
    subst (λ ys. IsDivisor c.gcd-divisor.result ys) (sym (take_more xs i 0 (omega arith)))
    (IsDivisor-more (take i xs) (get_or xs i 0) c.loop-number.divisor c.gcd-divisor.result c.loop-number.invariant c.gcd-divisor.ensures)
