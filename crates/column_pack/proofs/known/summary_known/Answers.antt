use Rattle.std.proofs.Common.{◌≡◌, ◌<◌, ◌≤◌, ◌^◌, ℕ, List, length, take, arith, ap, ◌∙◌, sym, subst}
use Rattle.std.specs.List.{All}
use Rattle.column_pack.specs.Block.{Block, IsBlockOf, counted}
use Rattle.column_pack.specs.Parts.{block_with, IsSound}
use Rattle.column_pack.specs.Spread.{IsMeasure}
use Rattle.column_pack.specs.Laws.Blocks.{below-width}
use Rattle.column_pack.specs.Laws.Layouts.{zeros-at}
use Rattle.column_pack.proofs.Leading.{leads-of, counted-few}
use Rattle.column_pack.specs.Laws.Sounds.{counted-below}
use Rattle.column_pack.proofs.known.summary_known.Goals as goal

pub header_known-header-requires : goal.header_known-header-requires
header_known-header-requires c = let (vs, h) = c.requires in let (b, _, l) = leads-of vs c.args.bytes.now h in (b, l)

pub residuals_known-count-requires-clause-block : goal.residuals_known-count-requires-clause-block
residuals_known-count-requires-clause-block c = let (vs, h) = c.requires in let (b, _, l) = leads-of vs c.args.bytes.now h in (b, l)

pub residuals_known-count-requires-clause-zero : goal.residuals_known-count-requires-clause-zero
residuals_known-count-requires-clause-zero c = λ k. zeros-at 128 k

pub slice_bounds-residuals-end : goal.slice_bounds-residuals-end
slice_bounds-residuals-end c =
    let (vs, h) = c.requires in
    let (b, _, l) = leads-of vs c.args.bytes.now h in
    omega (arith, l.sound.canonical.fits.few, c.residuals_known-count.ensures.count b l)

pub slice_bounds-held-end : goal.slice_bounds-held-end
slice_bounds-held-end c =
    let (vs, h) = c.requires in
    let (b, _, l) = leads-of vs c.args.bytes.now h in
    c.residuals_known-count.ensures.count b l ∙ ap (λ z. length z) (sym (c.residuals_known-count.ensures.residuals b l))

pub counted_of-requires : goal.counted_of-requires
counted_of-requires c =
    let (vs, h) = c.requires in
    let (b, _, l) = leads-of vs c.args.bytes.now h in
    omega (arith, l.sound.canonical.fits.some, ap (λ (z : List ℕ). length z) (c.residuals_known-count.ensures.residuals b l))

pub summary_of-requires-clause-sound : goal.summary_of-requires-clause-sound
summary_of-requires-clause-sound c =
    let (vs, h) = c.requires in
    let (b, _, l) = leads-of vs c.args.bytes.now h in
    subst IsSound (sym (ap (block_with c.header_known-header.result) (c.residuals_known-count.ensures.residuals b l) ∙ c.header_known-header.ensures b l)) l.sound

pub measure_of-measure-requires-clause-few : goal.measure_of-measure-requires-clause-few
measure_of-measure-requires-clause-few c =
    let (vs, h) = c.requires in
    let (b, _, l) = leads-of vs c.args.bytes.now h in
    let e : c.counted_of.result.now ≡ counted c.header_known-header.result.kind b.residuals = c.counted_of.ensures ∙ ap (counted c.header_known-header.result.kind) (c.residuals_known-count.ensures.residuals b l) in
    subst (λ z. length z ≤ 128) (sym e) (counted-few c.header_known-header.result.kind b.residuals l.sound.canonical.fits.few)

pub measure_of-measure-requires-clause-below : goal.measure_of-measure-requires-clause-below
measure_of-measure-requires-clause-below c =
    let (vs, h) = c.requires in
    let (b, _, l) = leads-of vs c.args.bytes.now h in
    let head = c.header_known-header.result in
    let e : c.counted_of.result.now ≡ counted head.kind b.residuals = c.counted_of.ensures ∙ ap (counted head.kind) (c.residuals_known-count.ensures.residuals b l) in
    let w : head.width ≡ b.width = ap (λ (x : Block). x.width) (c.header_known-header.ensures b l) in
    subst (λ z. All (λ r. r < 2 ^ head.width) z) (sym e) (subst (λ z. All (λ r. r < 2 ^ z) (counted head.kind b.residuals)) (sym w)
    (counted-below head.kind (2 ^ b.width) b.residuals (below-width b.width b.residuals l.sound.canonical.width)))

pub returns : goal.returns
returns c = λ vs h.
    let (b, is, l) = leads-of vs c.args.bytes.now h in
    c.summary_of.ensures vs (subst (IsBlockOf vs) (sym (ap (block_with c.header_known-header.result) (c.residuals_known-count.ensures.residuals b l) ∙ c.header_known-header.ensures b l)) is)
