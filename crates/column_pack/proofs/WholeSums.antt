use Rattle.std.proofs.Common.{◌≡◌, ◌≢◌, ℕ, ℤ, pos, suc, zero, add-one, ◌+◌, ◌*◌, ◌^◌, ◌<◌, List, [], ◌∷◌, length, get_or, drop, refl, sym, ◌∙◌, ap, arith, inl, inr}
use Rattle.std.specs.Prelude.{FitsSigned, ◌+ℤ◌, ◌-ℤ◌}
use Rattle.std.specs.Int.{w64, cast_signed}
use Rattle.std.proofs.lemmas.Int.{ints, to_z_pos}
use Rattle.std.proofs.lemmas.Bool.{cases_lt, le-ltb}
use Rattle.std.proofs.lemmas.List.{get_or-map, length-drop, get_or-drop}
use Rattle.column_pack.specs.Block.{Block, IsBlockOf, place, height, below_top, walk, turned}
use Rattle.column_pack.specs.Parts.{numbers_of}
use Rattle.column_pack.specs.declared.parts.Kind.{Kind}
use Rattle.column_pack.specs.declared.parts.Kind.TheVariants.{Plain, Rising, Falling}
use Rattle.column_pack.specs.Laws.Blocks.{height-lt}
use Rattle.column_pack.specs.Laws.OneList.{values-count}
use Rattle.column_pack.specs.Laws.Spans.{height-is}
use Rattle.column_pack.specs.Laws.Sums.{number-at, length-numbers}

walk-next : (s : ℕ) (ss : List ℕ) (i : ℕ) → i < length ss → get_or (walk s ss) (suc i) 0 ≡ get_or (walk s ss) i 0 + get_or ss i 0
walk-next s [] i h = absurd (omega arith)
walk-next s (x ∷ []) zero h = refl
walk-next s (x ∷ y ∷ ss) zero h = refl
walk-next s (x ∷ ss) (suc i) h = walk-next (s + x) ss i (omega arith)

walk-start : (s : ℕ) (ss : List ℕ) → get_or (walk s ss) 0 0 ≡ s
walk-start s [] = refl
walk-start s (x ∷ ss) = refl

cast-height : (x : ℕ) → x < 2 ^ 64 → pos (turned x) ≡ cast_signed w64 x +ℤ pos (2 ^ 63)
cast-height x h = elim (cases_lt x (2 ^ 63)) [
  | inl l ↦ rw (to_z_pos w64 x l) (let e : turned x ≡ x + 2 ^ 63 = omega arith in ap pos e)
  | inr l ↦ rw (le-ltb x (2 ^ 63) l) (omega (arith, ints))
]

module _ (vs : List ℤ) (first o f w : ℕ) (rs : List ℕ) where
  pub plain-value : IsBlockOf vs (record { kind = Plain; first = first; offset = o; factor = f; width = w; residuals = rs }) → (i : ℕ) → i < length vs → get_or vs i (pos 0) ≡ cast_signed w64 o +ℤ pos (f * get_or rs i 0)
  plain-value h i l =
      let b : Block = record { kind = Plain; first = first; offset = o; factor = f; width = w; residuals = rs } in
      let v = get_or vs i (pos 0) in
      let n : length rs ≡ length vs = values-count vs b h in
      let a : height v ≡ turned o + f * get_or rs i 0 = sym (get_or-map height vs i (pos 0) 0 l) ∙ ap (λ (xs : List ℕ). get_or xs i 0) (sym h.values) ∙ number-at (turned o) f rs i 0 (omega arith) in
      omega (arith, ints, height-is v (h.signed i (pos 0) l), cast-height o h.canonical.fits.offset)

  pub rising-first : IsBlockOf vs (record { kind = Rising; first = first; offset = o; factor = f; width = w; residuals = rs }) → get_or vs 0 (pos 0) ≡ cast_signed w64 first
  rising-first h =
      let b : Block = record { kind = Rising; first = first; offset = o; factor = f; width = w; residuals = rs } in
      let v = get_or vs 0 (pos 0) in
      let l : 0 < length vs = omega (arith, values-count vs b h, h.canonical.fits.some) in
      let a : height v ≡ turned first = sym (get_or-map height vs 0 (pos 0) 0 l) ∙ ap (λ (xs : List ℕ). get_or xs 0 0) (sym h.values) ∙ walk-start (turned first) (numbers_of o f (drop 1 rs)) in
      omega (arith, ints, height-is v (h.signed 0 (pos 0) l), cast-height first h.canonical.fits.first)

  pub rising-next : IsBlockOf vs (record { kind = Rising; first = first; offset = o; factor = f; width = w; residuals = rs }) → (i : ℕ) → i + 1 < length vs → get_or vs (i + 1) (pos 0) ≡ get_or vs i (pos 0) +ℤ pos (o + f * get_or rs (i + 1) 0)
  rising-next h i l =
      let b : Block = record { kind = Rising; first = first; offset = o; factor = f; width = w; residuals = rs } in
      let v = get_or vs i (pos 0) in
      let u = get_or vs (i + 1) (pos 0) in
      let ns = numbers_of o f (drop 1 rs) in
      let n : length rs ≡ length vs = values-count vs b h in
      let m : i < length ns = omega (arith, length-numbers o f (drop 1 rs), length-drop 1 rs) in
      let k : 1 + i ≡ i + 1 = omega arith in
      let r : get_or ns i 0 ≡ o + f * get_or rs (i + 1) 0 = number-at o f (drop 1 rs) i 0 (omega (arith, length-drop 1 rs)) ∙ ap (λ z. o + f * z) (get_or-drop 1 rs i 0 ∙ ap (λ z. get_or rs z 0) k) in
      let a : height v ≡ get_or (walk (turned first) ns) i 0 = sym (get_or-map height vs i (pos 0) 0 (omega arith)) ∙ ap (λ (xs : List ℕ). get_or xs i 0) (sym h.values) in
      let c : height u ≡ get_or (walk (turned first) ns) (i + 1) 0 = sym (get_or-map height vs (i + 1) (pos 0) 0 l) ∙ ap (λ (xs : List ℕ). get_or xs (i + 1) 0) (sym h.values) in
      let d : get_or (walk (turned first) ns) (i + 1) 0 ≡ get_or (walk (turned first) ns) i 0 + get_or ns i 0 = ap (λ z. get_or (walk (turned first) ns) z 0) (add-one i) ∙ walk-next (turned first) ns i m in
      omega (arith, ints, height-is v (h.signed i (pos 0) (omega arith)), height-is u (h.signed (i + 1) (pos 0) l))

  pub falling-first : IsBlockOf vs (record { kind = Falling; first = first; offset = o; factor = f; width = w; residuals = rs }) → get_or vs 0 (pos 0) ≡ cast_signed w64 first
  falling-first h =
      let b : Block = record { kind = Falling; first = first; offset = o; factor = f; width = w; residuals = rs } in
      let v = get_or vs 0 (pos 0) in
      let l : 0 < length vs = omega (arith, values-count vs b h, h.canonical.fits.some) in
      let s : FitsSigned w64 v = h.signed 0 (pos 0) l in
      let a : below_top (height v) ≡ below_top (turned first) = sym (get_or-map (place Falling) vs 0 (pos 0) 0 l) ∙ ap (λ (xs : List ℕ). get_or xs 0 0) (sym h.values) ∙ walk-start (below_top (turned first)) (numbers_of o f (drop 1 rs)) in
      let g : height v ≡ turned first = omega (arith, height-lt v s) in
      omega (arith, ints, height-is v s, cast-height first h.canonical.fits.first)

  pub falling-next : IsBlockOf vs (record { kind = Falling; first = first; offset = o; factor = f; width = w; residuals = rs }) → (i : ℕ) → i + 1 < length vs → get_or vs (i + 1) (pos 0) ≡ get_or vs i (pos 0) -ℤ pos (o + f * get_or rs (i + 1) 0)
  falling-next h i l =
      let b : Block = record { kind = Falling; first = first; offset = o; factor = f; width = w; residuals = rs } in
      let v = get_or vs i (pos 0) in
      let u = get_or vs (i + 1) (pos 0) in
      let start = below_top (turned first) in
      let ns = numbers_of o f (drop 1 rs) in
      let n : length rs ≡ length vs = values-count vs b h in
      let m : i < length ns = omega (arith, length-numbers o f (drop 1 rs), length-drop 1 rs) in
      let k : 1 + i ≡ i + 1 = omega arith in
      let r : get_or ns i 0 ≡ o + f * get_or rs (i + 1) 0 = number-at o f (drop 1 rs) i 0 (omega (arith, length-drop 1 rs)) ∙ ap (λ z. o + f * z) (get_or-drop 1 rs i 0 ∙ ap (λ z. get_or rs z 0) k) in
      let sv : FitsSigned w64 v = h.signed i (pos 0) (omega arith) in
      let su : FitsSigned w64 u = h.signed (i + 1) (pos 0) l in
      let a : below_top (height v) ≡ get_or (walk start ns) i 0 = sym (get_or-map (place Falling) vs i (pos 0) 0 (omega arith)) ∙ ap (λ (xs : List ℕ). get_or xs i 0) (sym h.values) in
      let c : below_top (height u) ≡ get_or (walk start ns) (i + 1) 0 = sym (get_or-map (place Falling) vs (i + 1) (pos 0) 0 l) ∙ ap (λ (xs : List ℕ). get_or xs (i + 1) 0) (sym h.values) in
      let d : get_or (walk start ns) (i + 1) 0 ≡ get_or (walk start ns) i 0 + get_or ns i 0 = ap (λ z. get_or (walk start ns) z 0) (add-one i) ∙ walk-next start ns i m in
      let g : height v ≡ height u + (o + f * get_or rs (i + 1) 0) = omega (arith, height-lt v sv, height-lt u su) in
      omega (arith, ints, height-is v sv, height-is u su)

-- ---- the same by a kind that is known

pub plain-sum : (vs : List ℤ) (k : Kind) (first o f w : ℕ) (rs : List ℕ) → IsBlockOf vs (record { kind = k; first = first; offset = o; factor = f; width = w; residuals = rs }) → k ≡ Plain
    → (i : ℕ) → i < length vs → get_or vs i (pos 0) ≡ cast_signed w64 o +ℤ pos (f * get_or rs i 0)
plain-sum vs Plain first o f w rs h e i l = plain-value vs first o f w rs h i l
plain-sum vs Rising first o f w rs h e i l = cc
plain-sum vs Falling first o f w rs h e i l = cc

pub first-sum : (vs : List ℤ) (k : Kind) (first o f w : ℕ) (rs : List ℕ) → IsBlockOf vs (record { kind = k; first = first; offset = o; factor = f; width = w; residuals = rs }) → k ≢ Plain
    → get_or vs 0 (pos 0) ≡ cast_signed w64 first
first-sum vs Plain first o f w rs h ne = absurd (ne refl)
first-sum vs Rising first o f w rs h ne = rising-first vs first o f w rs h
first-sum vs Falling first o f w rs h ne = falling-first vs first o f w rs h

pub rising-sum : (vs : List ℤ) (k : Kind) (first o f w : ℕ) (rs : List ℕ) → IsBlockOf vs (record { kind = k; first = first; offset = o; factor = f; width = w; residuals = rs }) → k ≡ Rising
    → (i : ℕ) → i + 1 < length vs → get_or vs (i + 1) (pos 0) ≡ get_or vs i (pos 0) +ℤ pos (o + f * get_or rs (i + 1) 0)
rising-sum vs Rising first o f w rs h e i l = rising-next vs first o f w rs h i l
rising-sum vs Plain first o f w rs h e i l = cc
rising-sum vs Falling first o f w rs h e i l = cc

pub falling-sum : (vs : List ℤ) (k : Kind) (first o f w : ℕ) (rs : List ℕ) → IsBlockOf vs (record { kind = k; first = first; offset = o; factor = f; width = w; residuals = rs }) → k ≡ Falling
    → (i : ℕ) → i + 1 < length vs → get_or vs (i + 1) (pos 0) ≡ get_or vs i (pos 0) -ℤ pos (o + f * get_or rs (i + 1) 0)
falling-sum vs Falling first o f w rs h e i l = falling-next vs first o f w rs h i l
falling-sum vs Plain first o f w rs h e i l = cc
falling-sum vs Rising first o f w rs h e i l = cc
