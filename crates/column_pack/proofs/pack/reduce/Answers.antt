use Rattle.std.proofs.Common.{◌∙◌, arith, subst, sym}
use Rattle.column_pack.specs.Parts.{IsReduced}
use Rattle.column_pack.specs.Laws.Reduced.{IsReduced-divided, IsReduced-whole, greatest-zeros}
use Rattle.column_pack.proofs.Spreads.{zeros-divisor}
use Rattle.column_pack.proofs.pack.reduce.Goals as goal

pub returns-then-divisor-gt1 : goal.returns-then-divisor-gt1
returns-then-divisor-gt1 c =
    subst (λ rs. IsReduced c.args.numbers.now c.least-least.result c.common_divisor-divisor.result rs) (sym c.divide.ensures)
    (IsReduced-divided c.args.numbers.now c.subtract.new.into c.least-least.result c.common_divisor-divisor.result c.least-least.ensures.below c.least-least.ensures.among c.subtract.ensures c.if-divisor-gt1.true c.common_divisor-divisor.ensures)

pub returns-else-divisor-gt1 : goal.returns-else-divisor-gt1
returns-else-divisor-gt1 c = IsReduced-whole c.args.numbers.now c.subtract.new.into c.least-least.result c.common_divisor-divisor.result c.least-least.ensures.below c.least-least.ensures.among c.subtract.ensures (omega arith) c.common_divisor-divisor.ensures

pub returns-then-greatest-eq0 : goal.returns-then-greatest-eq0
returns-then-greatest-eq0 c = IsReduced-whole c.args.numbers.now c.subtract.new.into c.least-least.result 0 c.least-least.ensures.below c.least-least.ensures.among c.subtract.ensures (omega arith) (zeros-divisor c.subtract.new.into (greatest-zeros c.subtract.new.into (sym c.greatest.ensures ∙ c.if-greatest-eq0.true)))
