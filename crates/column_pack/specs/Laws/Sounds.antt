use Rattle.std.proofs.Common.{◌≡◌, ◌≢◌, ℕ, ℤ, ◌+◌, ◌^◌, ◌<◌, List, [], ◌∷◌, length, get_or, take, drop, map, refl, sym, ◌∙◌, ap, subst, arith}
use Rattle.std.specs.Prelude.{FitsSigned}
use Rattle.std.specs.Int.{w64, from_be_bytes}
use Rattle.std.specs.List.{All}
use Rattle.std.proofs.lemmas.List.Elements.{All-head, All-tail, All-map, All-weaker, All-drop}
use Rattle.std.proofs.lemmas.List.{length-drop, length-map}
use Rattle.column_pack.specs.Laws.Sums.{length-numbers}
use Rattle.column_pack.specs.Laws.Walks.{length-walk}
use Rattle.column_pack.specs.Block.{Block, Fits, IsBlockOf, layout, places_of, place, height, below_top, kind_of, kind_code, counted, turned, walk, start_of}
use Rattle.column_pack.specs.Digits.{number, digits, stream}
use Rattle.column_pack.specs.Parts.{IsSound, heights, numbers_of}
use Rattle.column_pack.specs.declared.parts.Kind.{Kind}
use Rattle.column_pack.specs.declared.parts.Kind.TheVariants.{Plain, Rising, Falling}
use Rattle.column_pack.specs.Laws.Blocks.{height-lt, below-width, falling-places}
use Rattle.column_pack.specs.Laws.Layouts.{layout-count, layout-kind, layout-width, layout-first, layout-offset, layout-factor, layout-stream, stream-residuals}

-- ---- places and heights of values

place-lt : (k : Kind) (v : ℤ) → FitsSigned w64 v → place k v < 2 ^ 64
place-lt Plain v f = height-lt v f
place-lt Rising v f = height-lt v f
place-lt Falling v f = omega (arith, height-lt v f)

places-lt : (k : Kind) (vs : List ℤ) → All (FitsSigned w64) vs → All (λ p. p < 2 ^ 64) (map (place k) vs)
places-lt k vs h = All-map (λ p. p < 2 ^ 64) (place k) vs (All-weaker (FitsSigned w64) (λ v. place k v < 2 ^ 64) (place-lt k) vs h)

twice : (vs : List ℤ) → All (FitsSigned w64) vs → map below_top (map below_top (map height vs)) ≡ map height vs
twice [] h = refl
twice (v ∷ vs) h =
    let l : height v < 2 ^ 64 = height-lt v (All-head (FitsSigned w64) v vs h) in
    let e : below_top (below_top (height v)) ≡ height v = omega arith in
    rw (e, twice vs (All-tail (FitsSigned w64) v vs h)) refl

pub heights-places : (k : Kind) (vs : List ℤ) → All (FitsSigned w64) vs → heights k (map (place k) vs) ≡ map height vs
heights-places Plain vs h = refl
heights-places Rising vs h = refl
heights-places Falling vs h = ap (map below_top) (falling-places vs) ∙ twice vs h

-- ---- the block of values is sound, and a sound block is that of its values

pub sound-of : (vs : List ℤ) (b : Block) → IsBlockOf vs b → IsSound b
sound-of vs b h = record {
  canonical = h.canonical;
  shape = record {
    range = subst (λ ps. All (λ p. p < 2 ^ 64) ps) (sym h.values) (places-lt b.kind vs h.signed);
    kind = h.kind ∙ ap kind_of (sym (ap (heights b.kind) h.values ∙ heights-places b.kind vs h.signed));
  };
}

pub block-of-sound : (vs : List ℤ) (b : Block) → IsSound b → All (FitsSigned w64) vs → map (place b.kind) vs ≡ places_of b → IsBlockOf vs b
block-of-sound vs b s f e = record {
  signed = f;
  canonical = s.canonical;
  values = sym e;
  kind = s.shape.kind ∙ ap kind_of (ap (heights b.kind) (sym e) ∙ heights-places b.kind vs f);
}

-- ---- a block has one text

code-same : (a b : Kind) → kind_code a ≡ kind_code b → a ≡ b
code-same Plain Plain e = refl
code-same Rising Rising e = refl
code-same Falling Falling e = refl
code-same Plain Rising e = absurd (omega arith)
code-same Plain Falling e = absurd (omega arith)
code-same Rising Plain e = absurd (omega arith)
code-same Rising Falling e = absurd (omega arith)
code-same Falling Plain e = absurd (omega arith)
code-same Falling Rising e = absurd (omega arith)

unfoldable pub made : Kind → ℕ → ℕ → ℕ → ℕ → List ℕ → Block
made k f o c w rs = record { kind = k; first = f; offset = o; factor = c; width = w; residuals = rs }

pub made-same : (k k' : Kind) (f f' o o' c c' w w' : ℕ) (r r' : List ℕ) → k ≡ k' → f ≡ f' → o ≡ o' → c ≡ c' → w ≡ w' → r ≡ r' → made k f o c w r ≡ made k' f' o' c' w' r'
made-same k k' f f' o o' c c' w w' r r' e1 e2 e3 e4 e5 e6 = cc

pub same-blocks : (a b : Block) → Fits a → Fits b → All (λ r. r < 2 ^ a.width) a.residuals → All (λ r. r < 2 ^ b.width) b.residuals → layout a ≡ layout b → a ≡ b
unfolding made
same-blocks a b f g p q e =
    let w : a.width ≡ b.width = sym (layout-width a) ∙ ap (λ (xs : List ℕ). get_or xs 26 0) e ∙ layout-width b in
    let n : length a.residuals ≡ length b.residuals = sym (layout-count a) ∙ ap (λ (xs : List ℕ). get_or xs 0 0) e ∙ layout-count b in
    let s : drop 27 (layout a) ≡ drop 27 (layout b) = ap (drop 27) e in
    let r : a.residuals ≡ b.residuals =
    sym (stream-residuals a.width a.residuals p) ∙ ap (λ ys. digits (2 ^ a.width) (length a.residuals) (number 256 ys)) (sym (layout-stream a) ∙ s ∙ layout-stream b)
    ∙ ap (λ z. digits (2 ^ z) (length a.residuals) (number 256 (stream b.width b.residuals))) w
    ∙ ap (λ z. digits (2 ^ b.width) z (number 256 (stream b.width b.residuals))) n
    ∙ stream-residuals b.width b.residuals q in
    made-same a.kind b.kind a.first b.first a.offset b.offset a.factor b.factor a.width b.width a.residuals b.residuals
    (code-same a.kind b.kind (sym (layout-kind a) ∙ ap (λ (xs : List ℕ). get_or xs 1 0) e ∙ layout-kind b))
    (sym (layout-first a f.first) ∙ ap (λ xs. from_be_bytes w64 (take 8 (drop 2 xs))) e ∙ layout-first b g.first)
    (sym (layout-offset a f.offset) ∙ ap (λ xs. from_be_bytes w64 (take 8 (drop 10 xs))) e ∙ layout-offset b g.offset)
    (sym (layout-factor a f.factor) ∙ ap (λ xs. from_be_bytes w64 (take 8 (drop 18 xs))) e ∙ layout-factor b g.factor)
    w r

pub sound-same : (a b : Block) → Fits a → All (λ r. r < 2 ^ a.width) a.residuals → IsSound b → layout a ≡ layout b → IsSound a
sound-same a b f p s e = subst IsSound (sym (same-blocks a b f s.canonical.fits p (below-width b.width b.residuals s.canonical.width) e)) s

pub counted-below : (k : Kind) (m : ℕ) (rs : List ℕ) → All (λ r. r < m) rs → All (λ r. r < m) (counted k rs)
counted-below Plain m rs h = h
counted-below Rising m rs h = All-drop (λ r. r < m) 1 rs h
counted-below Falling m rs h = All-drop (λ r. r < m) 1 rs h

-- ---- the places of a block by its kind

pub plain-places : (k : Kind) (first o f w : ℕ) (rs : List ℕ) → k ≡ Plain → places_of (record { kind = k; first = first; offset = o; factor = f; width = w; residuals = rs }) ≡ numbers_of (turned o) f rs
plain-places Plain first o f w rs e = refl
plain-places Rising first o f w rs e = cc
plain-places Falling first o f w rs e = cc

pub steps-places : (k : Kind) (first o f w : ℕ) (rs : List ℕ) → k ≢ Plain → places_of (record { kind = k; first = first; offset = o; factor = f; width = w; residuals = rs }) ≡ walk (start_of k first) (numbers_of o f (drop 1 rs))
steps-places Plain first o f w rs ne = absurd (ne refl)
steps-places Rising first o f w rs ne = refl
steps-places Falling first o f w rs ne = refl

pub plain-counted : (k : Kind) (first o f w : ℕ) (rs : List ℕ) → k ≡ Plain → heights k (places_of (record { kind = k; first = first; offset = o; factor = f; width = w; residuals = rs })) ≡ numbers_of (turned o) f (counted k rs)
plain-counted Plain first o f w rs e = refl
plain-counted Rising first o f w rs e = cc
plain-counted Falling first o f w rs e = cc

pub rising-counted : (k : Kind) (first o f w : ℕ) (rs : List ℕ) → k ≡ Rising → heights k (places_of (record { kind = k; first = first; offset = o; factor = f; width = w; residuals = rs })) ≡ walk (start_of k first) (numbers_of o f (counted k rs))
rising-counted Rising first o f w rs e = refl
rising-counted Plain first o f w rs e = cc
rising-counted Falling first o f w rs e = cc

pub falling-counted : (k : Kind) (first o f w : ℕ) (rs : List ℕ) → k ≡ Falling → heights k (places_of (record { kind = k; first = first; offset = o; factor = f; width = w; residuals = rs })) ≡ map below_top (walk (start_of k first) (numbers_of o f (counted k rs)))
falling-counted Falling first o f w rs e = refl
falling-counted Plain first o f w rs e = cc
falling-counted Rising first o f w rs e = cc

pub steps-counted : (k : Kind) (rs : List ℕ) → k ≢ Plain → drop 1 rs ≡ counted k rs
steps-counted Plain rs ne = absurd (ne refl)
steps-counted Rising rs ne = refl
steps-counted Falling rs ne = refl

pub all-counted : (k : Kind) (rs : List ℕ) → k ≡ Plain → counted k rs ≡ rs
all-counted Plain rs e = refl
all-counted Rising rs e = cc
all-counted Falling rs e = cc

pub walked-places : (k : Kind) (first o f w : ℕ) (rs : List ℕ) → k ≢ Plain → places_of (record { kind = k; first = first; offset = o; factor = f; width = w; residuals = rs }) ≡ walk (start_of k first) (numbers_of o f (counted k rs))
walked-places Plain first o f w rs ne = absurd (ne refl)
walked-places Rising first o f w rs ne = refl
walked-places Falling first o f w rs ne = refl

pub counted-length : (k : Kind) (rs : List ℕ) → k ≢ Plain → 0 < length rs → length (counted k rs) + 1 ≡ length rs
counted-length Plain rs ne h = absurd (ne refl)
counted-length Rising rs ne h = omega (arith, length-drop 1 rs)
counted-length Falling rs ne h = omega (arith, length-drop 1 rs)

pub heights-length : (k : Kind) (first o f w : ℕ) (rs : List ℕ) → 0 < length rs → length (heights k (places_of (record { kind = k; first = first; offset = o; factor = f; width = w; residuals = rs }))) ≡ length rs
heights-length Plain first o f w rs h = length-numbers (turned o) f rs
heights-length Rising first o f w rs h = omega (arith, length-walk (turned first) (numbers_of o f (drop 1 rs)), length-numbers o f (drop 1 rs), length-drop 1 rs)
heights-length Falling first o f w rs h =
    length-map (walk (below_top (turned first)) (numbers_of o f (drop 1 rs))) below_top
    ∙ omega (arith, length-walk (below_top (turned first)) (numbers_of o f (drop 1 rs)), length-numbers o f (drop 1 rs), length-drop 1 rs)

pub places-length : (b : Block) → 0 < length b.residuals → length (places_of b) ≡ length b.residuals
places-length b h = go b.kind b.first b.offset b.factor b.width b.residuals h
  where
    go : (k : Kind) (first o f w : ℕ) (rs : List ℕ) → 0 < length rs → length (places_of (record { kind = k; first = first; offset = o; factor = f; width = w; residuals = rs })) ≡ length rs
    go Plain first o f w rs h = length-numbers (turned o) f rs
    go Rising first o f w rs h = omega (arith, length-walk (turned first) (numbers_of o f (drop 1 rs)), length-numbers o f (drop 1 rs), length-drop 1 rs)
    go Falling first o f w rs h = omega (arith, length-walk (below_top (turned first)) (numbers_of o f (drop 1 rs)), length-numbers o f (drop 1 rs), length-drop 1 rs)
