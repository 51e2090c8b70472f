use Rattle.std.proofs.Common.{ℤ, List, ◌++◌, ◌≡◌, length, take, drop, map, arith, ap, ◌∙◌, sym, subst}
use Rattle.std.specs.List.{All}
use Rattle.std.specs.Prelude.{FitsSigned}
use Rattle.std.specs.Int.{w64}
use Rattle.std.proofs.lemmas.List.{length-take-le, take-append-drop}
use Rattle.column_pack.specs.Laws.OneList.{same-values, values-count}
use Rattle.column_pack.specs.Block.{Block, layout, place, places_of}
use Rattle.column_pack.specs.Parts.{block_with, IsSound}
use Rattle.column_pack.specs.Laws.Layouts.{zeros-at}
use Rattle.column_pack.proofs.Leading.{leads-of}
use Rattle.column_pack.specs.Laws.Sounds.{block-of-sound}
use Rattle.column_pack.proofs.known.unpack_known.Goals as goal

pub header_known-header-requires : goal.header_known-header-requires
header_known-header-requires c = let (vs, h) = c.requires in let (b, _, l) = leads-of vs c.args.bytes.now h in (b, l)

pub residuals_known-count-requires-clause-block : goal.residuals_known-count-requires-clause-block
residuals_known-count-requires-clause-block c = let (vs, h) = c.requires in let (b, _, l) = leads-of vs c.args.bytes.now h in (b, l)

pub residuals_known-count-requires-clause-zero : goal.residuals_known-count-requires-clause-zero
residuals_known-count-requires-clause-zero c = λ k. zeros-at 128 k

pub slice_bounds-residuals-end : goal.slice_bounds-residuals-end
slice_bounds-residuals-end c =
    let (vs, h) = c.requires in
    let (b, _, l) = leads-of vs c.args.bytes.now h in
    omega (arith, l.sound.canonical.fits.few, c.residuals_known-count.ensures.count b l)

pub slice_bounds-write_values-end : goal.slice_bounds-write_values-end
slice_bounds-write_values-end c =
    let (vs, h) = c.requires in
    let (b, _, l) = leads-of vs c.args.bytes.now h in
    c.residuals_known-count.ensures.count b l ∙ ap (λ z. length z) (sym (c.residuals_known-count.ensures.residuals b l))

pub write_values-requires : goal.write_values-requires
write_values-requires c =
    let (vs, h) = c.requires in
    let (b, _, l) = leads-of vs c.args.bytes.now h in
    subst IsSound (sym (ap (block_with c.header_known-header.result) (c.residuals_known-count.ensures.residuals b l) ∙ c.header_known-header.ensures b l)) l.sound

pub returns : goal.returns
returns c = λ vs h.
    let (b, is, l) = leads-of vs c.args.bytes.now h in
    let into = c.write_values.new.into in
    let head = c.header_known-header.result in
    let rs = take c.residuals_known-count.result c.residuals_known-count.new.residuals in
    let same : block_with head rs ≡ b = ap (block_with head) (c.residuals_known-count.ensures.residuals b l) ∙ c.header_known-header.ensures b l in
    let m : length rs ≡ length vs = ap (λ z. length z) (c.residuals_known-count.ensures.residuals b l) ∙ values-count vs b is in
    let count : c.residuals_known-count.result ≡ length vs = c.residuals_known-count.ensures.count b l ∙ values-count vs b is in
    let signed : All (FitsSigned w64) (take (length vs) into) = subst (λ z. All (FitsSigned w64) (take z into)) m c.write_values.ensures.signed in
    let kind : head.kind ≡ b.kind = ap (λ (x : Block). x.kind) same in
    let values : map (place b.kind) (take (length vs) into) ≡ map (place b.kind) vs =
    ap (λ z. map (place z) (take (length vs) into)) (sym kind) ∙ ap (λ z. map (place head.kind) (take z into)) (sym m) ∙ c.write_values.ensures.values ∙ ap places_of same ∙ is.values in
    let front : take (length vs) into ≡ vs = same-values b.kind (take (length vs) into) vs signed is.signed values in
    (count, sym (take-append-drop (length vs) into) ∙ ap (λ ys. ys ++ drop (length vs) into) front ∙ ap (λ ys. vs ++ ys) (subst (λ z. drop z into ≡ drop z c.args.into.now) m c.write_values.ensures.rest))
