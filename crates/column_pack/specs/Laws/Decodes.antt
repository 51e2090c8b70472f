-- Blocks are what their fields say.
use Rattle.std.proofs.Common.{◌≡◌, ℕ, ℤ, ◌^◌, List, [], ◌∷◌, ◌++◌, length, get_or, take, drop, map, refl, sym, ◌∙◌, ap, arith}
use Rattle.std.specs.Prelude.{FitsSigned}
use Rattle.std.specs.Int.{w64}
use Rattle.std.specs.List.{All}
use Rattle.std.proofs.lemmas.Int.{ints}
use Rattle.std.proofs.lemmas.List.Elements.{All-head, All-tail}
use Rattle.std.proofs.Math.Seq.{take-append_seam}
use Rattle.column_pack.specs.Block.{Block, IsBlock, IsBlockOf, layout, place, kind_code}
use Rattle.column_pack.specs.Digits.{digits, number}
use Rattle.column_pack.specs.declared.parts.Kind.{Kind}
use Rattle.column_pack.specs.declared.parts.Kind.TheVariants.{Plain, Rising, Falling}
use Rattle.column_pack.specs.Laws.Blocks.{height-lt, below-width}
use Rattle.column_pack.specs.Laws.Layouts.{layout-count, layout-kind, layout-width, layout-stream, layout-first, layout-offset, layout-factor, stream-residuals}
use Rattle.column_pack.specs.Laws.OneList.{length-before}
use Rattle.column_pack.specs.Laws.Sounds.{made, made-same}
use Rattle.column_pack.specs.Laws.Spans.{height-is}
use Rattle.column_pack.specs.Decoded.{front_block, code_kind, block_in, at_place, values_of}

pub front-block : (vs : List ℤ) (block rest : List ℕ) → IsBlock vs block → front_block (block ++ rest) ≡ block
unfolding front_block
front-block vs block rest h = ap (λ n. take n (block ++ rest)) (length-before vs block rest h) ∙ take-append_seam block rest

kind-again : (k : Kind) → code_kind (kind_code k) ≡ k
kind-again Plain = refl
kind-again Rising = refl
kind-again Falling = refl

at-again : (k : Kind) (v : ℤ) → FitsSigned w64 v → at_place k (place k v) ≡ v
at-again Plain v f = omega (arith, ints, height-is v f)
at-again Rising v f = omega (arith, ints, height-is v f)
at-again Falling v f = omega (arith, ints, height-is v f, height-lt v f)

all-again : (k : Kind) (vs : List ℤ) → All (FitsSigned w64) vs → map (at_place k) (map (place k) vs) ≡ vs
all-again k [] f = refl
all-again k (v ∷ vs) f =
    ap (λ z. z ∷ map (at_place k) (map (place k) vs)) (at-again k v (All-head (FitsSigned w64) v vs f))
    ∙ ap (λ z. v ∷ z) (all-again k vs (All-tail (FitsSigned w64) v vs f))

fields-again : (vs : List ℤ) (b : Block) → IsBlockOf vs b → block_in (layout b) ≡ b
unfolding block_in made
fields-again vs b h =
    let fits = h.canonical.fits in
    let bytes = layout b in
    let rs : digits (2 ^ get_or bytes 26 0) (get_or bytes 0 0) (number 256 (drop 27 bytes)) ≡ b.residuals =
    ap (λ z. digits (2 ^ z) (get_or bytes 0 0) (number 256 (drop 27 bytes))) (layout-width b)
    ∙ ap (λ z. digits (2 ^ b.width) z (number 256 (drop 27 bytes))) (layout-count b)
    ∙ ap (λ z. digits (2 ^ b.width) (length b.residuals) (number 256 z)) (layout-stream b)
    ∙ stream-residuals b.width b.residuals (below-width b.width b.residuals h.canonical.width) in
    made-same (code_kind (get_or bytes 1 0)) b.kind _ b.first _ b.offset _ b.factor (get_or bytes 26 0) b.width _ b.residuals
    (ap code_kind (layout-kind b) ∙ kind-again b.kind) (layout-first b fits.first) (layout-offset b fits.offset) (layout-factor b fits.factor) (layout-width b) rs

-- a block's fields tell its values
pub values-again : (vs : List ℤ) (block : List ℕ) → IsBlock vs block → values_of (block_in block) ≡ vs
values-again vs block (b, h, e) =
    ap values_of (ap block_in e ∙ fields-again vs b h) ∙ ap (map (at_place b.kind)) h.values ∙ all-again b.kind vs h.signed
