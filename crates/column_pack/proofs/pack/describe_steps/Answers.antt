use Rattle.std.proofs.Common.{◌≡◌, ◌-◌, ◌∷◌, length, sym, subst, ap, ◌∙◌, arith}
use borrow.Rule.Slice.PartMut.{put_mid}
use Rattle.column_pack.specs.Block.{IsCanonical}
use Rattle.column_pack.specs.Digits.{IsWidth, greatest_of}
use Rattle.column_pack.specs.Parts.{block_with}
use Rattle.column_pack.specs.Laws.Blocks.{put-one, steps-canonical}
use Rattle.column_pack.proofs.pack.describe_steps.Goals as goal

pub returns-clause-canonical : goal.returns-clause-canonical
returns-clause-canonical c =
    let into = c.reduce-reduced.new.into in
    let old = c.args.residuals.now in
    let e : put_mid 1 (length old - 1) old into ≡ 0 ∷ into = put-one old into (omega arith) c.requires.zero in
    let w : IsWidth c.width_of-width.result (greatest_of (0 ∷ into)) = subst (λ z. IsWidth c.width_of-width.result z) (c.greatest.ensures ∙ ap greatest_of e) c.width_of-width.ensures.width in
    subst (λ rs. IsCanonical (block_with (record { kind = c.args.kind; first = c.args.first; offset = c.reduce-reduced.result.least; factor = c.reduce-reduced.result.factor; width = c.width_of-width.result }) rs)) (sym e)
    (steps-canonical c.args.kind c.args.first c.reduce-reduced.result.least c.reduce-reduced.result.factor c.width_of-width.result c.steps_between.new.steps into c.requires.kind c.reduce-reduced.ensures w
    (omega arith) (omega arith) (omega arith) (omega arith) c.width_of-width.ensures.at_most)
