use Rattle.std.proofs.Common.{◌∙◌, sym, subst}
use Rattle.synthetic_source.specs.Times.{IsFirstOf, IsRefusalBy}
use Rattle.synthetic_source.proofs.typing.first_fault.Goals as goal

pub returns-in-None : goal.returns-in-None
returns-in-None c = subst (λ o. IsFirstOf c.args.kind c.args.path.now o c.refused.result) (sym c.in-None.is) c.refused.ensures

pub returns-then-lt : goal.returns-then-lt
returns-then-lt c =
    subst (λ o. IsFirstOf c.args.kind c.args.path.now o c.refused-then-lt.result) (sym c.in-Some.is)
    (subst (λ b. IsRefusalBy b c.in-Some.stray c.args.kind c.args.path.now c.refused-then-lt.result) (sym (sym c.lt.ensures ∙ c.if-lt.true)) c.refused-then-lt.ensures)

pub returns-else-lt : goal.returns-else-lt
returns-else-lt c =
    subst (λ o. IsFirstOf c.args.kind c.args.path.now o c.refused-in-Some.result) (sym c.in-Some.is)
    (subst (λ b. IsRefusalBy b c.in-Some.stray c.args.kind c.args.path.now c.refused-in-Some.result) (sym (sym c.lt.ensures ∙ c.if-lt.false)) c.refused-in-Some.ensures)
