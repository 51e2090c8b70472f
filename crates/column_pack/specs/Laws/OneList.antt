use Rattle.std.proofs.Common.{◌≡◌, ℕ, ℤ, ◌+◌, ◌*◌, ◌<◌, ◌≤◌, List, [], ◌∷◌, ◌++◌, length, get_or, map, refl, sym, ◌∙◌, ap, arith}
use Rattle.std.specs.Prelude.{FitsSigned}
use Rattle.std.specs.Int.{w64}
use Rattle.std.specs.List.{All}
use Rattle.std.proofs.lemmas.List.{length-map, get_or_append_left}
use Rattle.std.proofs.lemmas.List.Elements.{All-head, All-tail}
use Rattle.column_pack.specs.Block.{Block, IsBlock, IsBlockOf, place, places_of}
use Rattle.column_pack.specs.Digits.{bytes_for}
use Rattle.column_pack.specs.declared.parts.Kind.{Kind}
use Rattle.column_pack.specs.declared.parts.Kind.TheVariants.{Plain, Rising, Falling}
use Rattle.column_pack.specs.Laws.Blocks.{height-lt, below-width}
use Rattle.column_pack.specs.Laws.Layouts.{length-layout, layout-count, layout-width}
use Rattle.column_pack.specs.Laws.Sounds.{same-blocks, places-length}
use Rattle.column_pack.specs.Laws.Spans.{height-same}

place-same : (k : Kind) (v w : ℤ) → FitsSigned w64 v → FitsSigned w64 w → place k v ≡ place k w → v ≡ w
place-same Plain v w f g e = height-same v w f g e
place-same Rising v w f g e = height-same v w f g e
place-same Falling v w f g e = height-same v w f g (omega (arith, height-lt v f, height-lt w g))

pub same-values : (k : Kind) (vs ws : List ℤ) → All (FitsSigned w64) vs → All (FitsSigned w64) ws → map (place k) vs ≡ map (place k) ws → vs ≡ ws
same-values k [] [] f g e = refl
same-values k [] (w ∷ ws) f g e = cc
same-values k (v ∷ vs) [] f g e = cc
same-values k (v ∷ vs) (w ∷ ws) f g e =
    let h : place k v ≡ place k w = cc in
    let t : map (place k) vs ≡ map (place k) ws = cc in
    let a : v ≡ w = place-same k v w (All-head (FitsSigned w64) v vs f) (All-head (FitsSigned w64) w ws g) h in
    let b : vs ≡ ws = same-values k vs ws (All-tail (FitsSigned w64) v vs f) (All-tail (FitsSigned w64) w ws g) t in
    cc

pub one-list : (vs ws : List ℤ) (bytes : List ℕ) → IsBlock vs bytes → IsBlock ws bytes → vs ≡ ws
one-list vs ws bytes (a, h, e) (b, k, f) =
    let s : a ≡ b = same-blocks a b h.canonical.fits k.canonical.fits (below-width a.width a.residuals h.canonical.width) (below-width b.width b.residuals k.canonical.width) (sym e ∙ f) in
    let v : map (place a.kind) vs ≡ map (place a.kind) ws = sym h.values ∙ ap places_of s ∙ k.values ∙ ap (λ (x : Block). map (place x.kind) ws) (sym s) in
    same-values a.kind vs ws h.signed k.signed v

-- as many values as residuals
pub values-count : (vs : List ℤ) (b : Block) → IsBlockOf vs b → length b.residuals ≡ length vs
values-count vs b h = sym (places-length b h.canonical.fits.some) ∙ ap (λ (xs : List ℕ). length xs) h.values ∙ length-map vs (place b.kind)

pub block-count : (vs : List ℤ) (bytes : List ℕ) → IsBlock vs bytes → get_or bytes 0 0 ≡ length vs
block-count vs bytes (b, h, e) = ap (λ (xs : List ℕ). get_or xs 0 0) e ∙ layout-count b ∙ values-count vs b h

pub block-size : (vs : List ℤ) (bytes : List ℕ) → IsBlock vs bytes → length bytes ≡ 27 + bytes_for (length vs * get_or bytes 26 0)
block-size vs bytes (b, h, e) =
    let w : b.width ≡ get_or bytes 26 0 = sym (ap (λ (xs : List ℕ). get_or xs 26 0) e ∙ layout-width b) in
    ap (λ (xs : List ℕ). length xs) e ∙ length-layout b ∙ ap (λ z. 27 + bytes_for (z * b.width)) (values-count vs b h) ∙ ap (λ z. 27 + bytes_for (length vs * z)) w

-- the length by the first bytes, whatever follows
pub length-before : (vs : List ℤ) (block rest : List ℕ) → IsBlock vs block → 27 + bytes_for (get_or (block ++ rest) 0 0 * get_or (block ++ rest) 26 0) ≡ length block
length-before vs block rest h =
    let s : length block ≡ 27 + bytes_for (length vs * get_or block 26 0) = block-size vs block h in
    let a : get_or (block ++ rest) 0 0 ≡ length vs = get_or_append_left block rest 0 0 (omega arith) ∙ block-count vs block h in
    let b : get_or (block ++ rest) 26 0 ≡ get_or block 26 0 = get_or_append_left block rest 0 26 (omega arith) in
    rw (a, b) (sym s)

pub block-some : (vs : List ℤ) (block : List ℕ) → IsBlock vs block → 0 < length vs
block-some vs block (b, h, e) = omega (arith, values-count vs b h, h.canonical.fits.some)

pub block-few : (vs : List ℤ) (block : List ℕ) → IsBlock vs block → length vs ≤ 128
block-few vs block (b, h, e) = omega (arith, values-count vs b h, h.canonical.fits.few)
