use Rattle.std.proofs.Common.{subst, sym, ◌∙◌}
use Rattle.std.proofs.lemmas.Bool.{iff_false}
use Rattle.column_pack.specs.Block.{counted}
use Rattle.column_pack.specs.Digits.{IsWidth}
use Rattle.column_pack.specs.Parts.{block_with, IsSound}
use Rattle.column_pack.specs.Laws.Checks.{no-iff, iff-trans, sound-iff, sound-width, least-to, factor-to}
use Rattle.column_pack.proofs.sound.is_sound.Goals as goal

pub returns-then-unused_of-ne0 : goal.returns-then-unused_of-ne0
returns-then-unused_of-ne0 c = no-iff (λ (s : IsSound (block_with c.args.header.now c.args.residuals.now)). c.if-unused_of-ne0.true (c.unused_of.ensures ∙ s.canonical.unused_zero))

pub returns-then-not-spread : goal.returns-then-not-spread
returns-then-not-spread c =
    let b = block_with c.args.header.now c.args.residuals.now in
    no-iff (λ (s : IsSound b). iff_false c.requires.spread.zero c.if-not-spread.true (least-to b s.canonical.factor.positive s.canonical.least))

pub returns-then-not-is_greatest : goal.returns-then-not-is_greatest
returns-then-not-is_greatest c =
    let b = block_with c.args.header.now c.args.residuals.now in
    no-iff (λ (s : IsSound b). iff_false c.is_greatest.ensures c.if-not-is_greatest.true (factor-to b.factor c.args.spread.now.divisor (counted b.kind b.residuals) c.requires.spread.common s.canonical.factor))

pub returns-then-header-width_of : goal.returns-then-header-width_of
returns-then-header-width_of c =
    let b = block_with c.args.header.now c.args.residuals.now in
    no-iff (λ (s : IsSound b). c.if-header-width_of.true (sound-width b c.width_of.result (subst (λ n. IsWidth c.width_of.result n) c.requires.spread.most c.width_of.ensures.width) s))

pub returns : goal.returns
returns c =
    let b = block_with c.args.header.now c.args.residuals.now in
    let k = c.requires.spread in
    iff-trans c.has_kind.ensures
    (sound-iff b c.args.spread.now.divisor c.width_of.result c.requires.fits (sym c.unused_of.ensures ∙ c.if-unused_of-ne0.false) (k.zero.0 c.if-not-spread.false) k.common (c.is_greatest.ensures.0 c.if-not-is_greatest.false)
    (subst (λ n. IsWidth c.width_of.result n) k.most c.width_of.ensures.width) c.if-header-width_of.false)
