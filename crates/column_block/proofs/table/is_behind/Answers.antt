use Rattle.std.proofs.Common.{◌∙◌, ap, sym, arith, refl}
use Rattle.std.specs.Cmp.Lexicographic.{slice_cmp}
use Rattle.std.specs.Ordering.{nat_cmp}
use Rattle.std.proofs.lemmas.Bool.{false≢true}
use Rattle.row_cells.specs.Dimensions.{IsBefore}
use Rattle.column_block.proofs.Tabling.{push-last}
use Rattle.column_block.proofs.table.is_behind.Goals as goal

pub returns-in-Less : goal.returns-in-Less
returns-in-Less c =
    let x = c.index-texts-count.result in
    let t = c.args.text.now in
    let before : IsBefore x t = ap (λ z. slice_cmp nat_cmp z t) (sym c.as_str.ensures) ∙ sym c.cmp.ensures ∙ c.in-Less.is in
    ((λ _. (push-last c.args.texts.now t x c.requires (omega (arith, c.if-count-eq0.false)) c.index-texts-count.is).0 before), (λ _. refl))

pub returns-in_default : goal.returns-in_default
returns-in_default c =
    let x = c.index-texts-count.result in
    let t = c.args.text.now in (
      (λ g. absurd (false≢true g)),
      (λ g. absurd (c.in_default.not-Less (c.cmp.ensures ∙ ap (λ z. slice_cmp nat_cmp z t) c.as_str.ensures ∙ (push-last c.args.texts.now t x c.requires (omega (arith, c.if-count-eq0.false)) c.index-texts-count.is).1 g))),
    )
