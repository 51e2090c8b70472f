use Rattle.std.proofs.Common.{◌≡◌, ℕ, ℤ, List, pos, ◌*◌, ◌^◌, length, map, arith, ap, ◌∙◌, sym, subst}
use Rattle.std.specs.Prelude.{FitsSigned, ◌+ℤ◌}
use Rattle.std.specs.Int.{w64, w128, cast_signed, cast_unsigned}
use Rattle.std.specs.List.{All}
use Rattle.std.proofs.lemmas.Int.{to_z-of_z}
use Rattle.std.proofs.lemmas.List.{length-map}
use Rattle.column_pack.specs.Block.{height, place, places_of}
use Rattle.column_pack.specs.Parts.{block_with, heights}
use Rattle.column_pack.specs.Span.{IsSpan}
use Rattle.column_pack.specs.Laws.Blocks.{height-lt}
use Rattle.column_pack.specs.Laws.Sounds.{heights-places, heights-length}
use Rattle.column_pack.specs.Laws.Spans.{summary-from, span-total}
use Rattle.column_pack.proofs.summary.summary_of.Goals as goal

pub sum_of-requires-clause-total : goal.sum_of-requires-clause-total
sum_of-requires-clause-total c =
    let h = c.args.header.now in
    let rs = c.args.residuals.now in
    let fits = c.requires.sound.canonical.fits in
    let g = height-lt c.value_at-2.result (record { sfits = c.value_at-2.type_inv }) in
    span-total (heights h.kind (places_of (block_with h rs))) c.span_of-span.result c.span_of-span.ensures
    (omega (arith, fits.few, heights-length h.kind h.first h.offset h.factor h.width rs fits.some)) (omega (arith, g, c.value_at-2.ensures))

pub returns : goal.returns
returns c = λ vs is.
    let h = c.args.header.now in
    let rs = c.args.residuals.now in
    let b = block_with h rs in
    let ps = places_of b in
    let s = c.span_of-span.result in
    let hs : heights h.kind ps ≡ map height vs = ap (heights h.kind) is.values ∙ heights-places h.kind vs is.signed in
    let span : IsSpan (map height vs) s = subst (λ ys. IsSpan ys s) hs c.span_of-span.ensures in
    let n : length rs ≡ length vs = omega (arith, heights-length h.kind h.first h.offset h.factor h.width rs c.requires.sound.canonical.fits.some, ap (λ (ys : List ℕ). length ys) hs, length-map vs height) in
    let min : ℤ = cast_signed w64 (cast_unsigned w64 c.value_at.result) in
    let max : ℤ = cast_signed w64 (cast_unsigned w64 c.value_at-2.result) in
    let min-is : min ≡ c.value_at.result = to_z-of_z w64 c.value_at.result (record { sfits = c.value_at.type_inv }) in
    let max-is : max ≡ c.value_at-2.result = to_z-of_z w64 c.value_at-2.result (record { sfits = c.value_at-2.type_inv }) in
    let sum : ℤ = cast_signed w128 (cast_unsigned w128 c.sum_of.result) in
    let sum-is : sum ≡ c.sum_of.result = to_z-of_z w128 c.sum_of.result (record { sfits = c.sum_of.type_inv }) in
    let fmin : FitsSigned w64 min = rw min-is (record { sfits = c.value_at.type_inv }) in
    let fmax : FitsSigned w64 max = rw max-is (record { sfits = c.value_at-2.type_inv }) in
    summary-from vs s (length rs) min max sum is.signed span n fmin fmax (ap height min-is ∙ c.value_at.ensures) (ap height max-is ∙ c.value_at-2.ensures) (ap (λ z. z +ℤ pos (length rs * 2 ^ 63)) sum-is ∙ c.sum_of.ensures)
