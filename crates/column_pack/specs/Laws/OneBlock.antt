use Rattle.std.proofs.Common.{◌≡◌, ◌≢◌, ℕ, ℤ, ◌+◌, ◌*◌, ◌^◌, ◌<◌, ◌≤◌, List, [], ◌∷◌, length, map, refl, sym, ◌∙◌, ap, subst, arith, inl, inr}
use Rattle.std.specs.List.{All, Contains}
use Rattle.std.proofs.lemmas.Bool.{cases_lt}
use Rattle.std.proofs.lemmas.List.Elements.{All-contains}
use Rattle.std.proofs.lemmas.Nat.Gcd.{dvd_antisymm}
use Rattle.std.proofs.Math.Nat.{mul-le-mul_left}
use Rattle.column_pack.specs.Block.{IsBlock, IsBlockOf, layout, sums, walk, turned, start_of, low_of, counted, unused}
use Rattle.column_pack.specs.Digits.{greatest_of}
use Rattle.column_pack.specs.Factor.{IsGreatestFactor}
use Rattle.column_pack.specs.Parts.{numbers_of}
use Rattle.column_pack.specs.declared.parts.Kind.{Kind}
use Rattle.column_pack.specs.declared.parts.Kind.TheVariants.{Plain, Rising, Falling}
use Rattle.column_pack.specs.Laws.Checks.{width-unique}
use Rattle.column_pack.specs.Laws.Sounds.{made, made-same}
use Rattle.column_pack.specs.Laws.Spans.{numbers-all-above}
use Rattle.column_pack.specs.Laws.Walks.{length-walk}

turned-same : (x y : ℕ) → x < 2 ^ 64 → y < 2 ^ 64 → turned x ≡ turned y → x ≡ y
turned-same x y p q e = omega arith

start-same : (k : Kind) (x y : ℕ) → k ≢ Plain → x < 2 ^ 64 → y < 2 ^ 64 → start_of k x ≡ start_of k y → x ≡ y
start-same Plain x y ne p q e = absurd (ne refl)
start-same Rising x y ne p q e = turned-same x y p q e
start-same Falling x y ne p q e = turned-same x y p q (omega arith)

low-same : (k : Kind) (x y : ℕ) → x < 2 ^ 64 → y < 2 ^ 64 → low_of k x ≡ low_of k y → x ≡ y
low-same Plain x y p q e = turned-same x y p q e
low-same Rising x y p q e = e
low-same Falling x y p q e = e

heads : (x y : ℕ) (xs ys : List ℕ) → x ∷ xs ≡ y ∷ ys → (x ≡ y) × (xs ≡ ys)
heads x y xs ys e = (cc, cc)

walk-same : (s t : ℕ) (ss tt : List ℕ) → walk s ss ≡ walk t tt → (s ≡ t) × (ss ≡ tt)
walk-same s t [] [] e = ((heads s t [] [] e).0, refl)
walk-same s t [] (y ∷ tt) e = absurd (omega (arith, ap (λ (xs : List ℕ). length xs) e, length-walk (t + y) tt))
walk-same s t (x ∷ ss) [] e = absurd (omega (arith, ap (λ (xs : List ℕ). length xs) e, length-walk (s + x) ss))
walk-same s t (x ∷ ss) (y ∷ tt) e =
    let h = heads s t (walk (s + x) ss) (walk (t + y) tt) e in
    let r = walk-same (s + x) (t + y) ss tt h.1 in
    let a : x ≡ y = omega (arith, h.0, r.0) in
    let b : ss ≡ tt = r.1 in
    (h.0, cc)

least-le : (o p f : ℕ) (rs ns : List ℕ) → numbers_of o f rs ≡ ns → Contains ns p → o ≤ p
least-le o p f rs ns e c = All-contains (λ n. o ≤ n) ns p (subst (λ ys. All (λ n. o ≤ n) ys) e (numbers-all-above o f rs)) c

differences-same : (o : ℕ) (xs ys : List ℕ) → map (λ d. o + d) xs ≡ map (λ d. o + d) ys → xs ≡ ys
differences-same o [] [] e = refl
differences-same o [] (y ∷ ys) e = cc
differences-same o (x ∷ xs) [] e = cc
differences-same o (x ∷ xs) (y ∷ ys) e =
    let h = heads (o + x) (o + y) (map (λ d. o + d) xs) (map (λ d. o + d) ys) e in
    let a : x ≡ y = omega (arith, h.0) in
    let b : xs ≡ ys = differences-same o xs ys h.1 in
    cc

multiple-same : (f x y : ℕ) → 0 < f → f * x ≡ f * y → x ≡ y
multiple-same f x y p e = elim (cases_lt x y) [
  | inl h ↦ let m : f * (x + 1) ≤ f * y = mul-le-mul_left f (omega arith) in absurd (omega arith)
  | inr h ↦ elim (cases_lt y x) [
    | inl k ↦ let m : f * (y + 1) ≤ f * x = mul-le-mul_left f (omega arith) in absurd (omega arith)
    | inr k ↦ omega arith
  ]
]

multiples-same : (f : ℕ) (xs ys : List ℕ) → 0 < f → map (λ r. f * r) xs ≡ map (λ r. f * r) ys → xs ≡ ys
multiples-same f [] [] p e = refl
multiples-same f [] (y ∷ ys) p e = cc
multiples-same f (x ∷ xs) [] p e = cc
multiples-same f (x ∷ xs) (y ∷ ys) p e =
    let h = heads (f * x) (f * y) (map (λ r. f * r) xs) (map (λ r. f * r) ys) e in
    let a : x ≡ y = multiple-same f x y p h.0 in
    let b : xs ≡ ys = multiples-same f xs ys p h.1 in
    cc

factor-same : (f g : ℕ) (ds : List ℕ) → IsGreatestFactor f ds → IsGreatestFactor g ds → f ≡ g
factor-same f g ds h k = elim (cases_lt 0 (greatest_of ds)) [
  | inl p ↦ dvd_antisymm (k.greatest p f h.divides) (h.greatest p g k.divides)
  | inr p ↦ let z : greatest_of ds ≡ 0 = omega arith in h.one z ∙ sym (k.one z)
]

residuals-same : (k : Kind) (f g : ℕ) (rs ss : List ℕ) → 0 < length rs → 0 < length ss → unused k f rs ≡ 0 → unused k g ss ≡ 0 → counted k rs ≡ counted k ss → rs ≡ ss
residuals-same Plain f g rs ss p q u v e = e
residuals-same Rising f g [] ss p q u v e = absurd (omega arith)
residuals-same Rising f g (r ∷ rs) [] p q u v e = absurd (omega arith)
residuals-same Rising f g (r ∷ rs) (s ∷ ss) p q u v e = cc
residuals-same Falling f g [] ss p q u v e = absurd (omega arith)
residuals-same Falling f g (r ∷ rs) [] p q u v e = absurd (omega arith)
residuals-same Falling f g (r ∷ rs) (s ∷ ss) p q u v e = cc

numbers-same : (k : Kind) (s t : ℕ) (ns ms : List ℕ) → sums k s ns ≡ sums k t ms → ns ≡ ms
numbers-same Plain s t ns ms e = e
numbers-same Rising s t ns ms e = (walk-same s t ns ms e).1
numbers-same Falling s t ns ms e = (walk-same s t ns ms e).1

first-same : (k : Kind) (f g : ℕ) (rs ss ns ms : List ℕ) → f < 2 ^ 64 → g < 2 ^ 64 → unused k f rs ≡ 0 → unused k g ss ≡ 0 → sums k (start_of k f) ns ≡ sums k (start_of k g) ms → f ≡ g
first-same Plain f g rs ss ns ms p q u v e = u ∙ sym v
first-same Rising f g rs ss ns ms p q u v e = start-same Rising f g (λ h. cc) p q (walk-same (start_of Rising f) (start_of Rising g) ns ms e).0
first-same Falling f g rs ss ns ms p q u v e = start-same Falling f g (λ h. cc) p q (walk-same (start_of Falling f) (start_of Falling g) ns ms e).0

same-block : (vs : List ℤ) (k : Kind) (f o c w f' o' c' w' : ℕ) (rs rs' : List ℕ) → IsBlockOf vs (made k f o c w rs) → IsBlockOf vs (made k f' o' c' w' rs') → made k f o c w rs ≡ made k f' o' c' w' rs'
unfolding made
same-block vs k f o c w f' o' c' w' rs rs' h g =
    let p = h.canonical in
    let q = g.canonical in
    let places : sums k (start_of k f) (numbers_of (low_of k o) c (counted k rs)) ≡ sums k (start_of k f') (numbers_of (low_of k o') c' (counted k rs')) = h.values ∙ sym g.values in
    let ns : numbers_of (low_of k o) c (counted k rs) ≡ numbers_of (low_of k o') c' (counted k rs') = numbers-same k (start_of k f) (start_of k f') (numbers_of (low_of k o) c (counted k rs)) (numbers_of (low_of k o') c' (counted k rs')) places in
    let up : low_of k o ≤ low_of k o' = least-le (low_of k o) (low_of k o') c (counted k rs) (numbers_of (low_of k o') c' (counted k rs')) ns q.least in
    let down : low_of k o' ≤ low_of k o = least-le (low_of k o') (low_of k o) c' (counted k rs') (numbers_of (low_of k o) c (counted k rs)) (sym ns) p.least in
    let low : low_of k o ≡ low_of k o' = omega arith in
    let ds : map (λ r. c * r) (counted k rs) ≡ map (λ r. c' * r) (counted k rs') =
    differences-same (low_of k o') (map (λ r. c * r) (counted k rs)) (map (λ r. c' * r) (counted k rs')) (ap (λ z. numbers_of z c (counted k rs)) (sym low) ∙ ns) in
    let factor : c ≡ c' = factor-same c c' (map (λ r. c * r) (counted k rs)) p.factor (subst (λ ys. IsGreatestFactor c' ys) (sym ds) q.factor) in
    let cs : counted k rs ≡ counted k rs' = multiples-same c (counted k rs) (counted k rs') p.factor.positive (ds ∙ ap (λ z. map (λ r. z * r) (counted k rs')) (sym factor)) in
    let res : rs ≡ rs' = residuals-same k f f' rs rs' p.fits.some q.fits.some p.unused_zero q.unused_zero cs in
    made-same k k f f' o o' c c' w w' rs rs' refl
    (first-same k f f' rs rs' (numbers_of (low_of k o) c (counted k rs)) (numbers_of (low_of k o') c' (counted k rs')) p.fits.first q.fits.first p.unused_zero q.unused_zero places)
    (low-same k o o' p.fits.offset q.fits.offset low)
    factor
    (width-unique w w' (greatest_of rs') (rw (← res) p.width) q.width)
    res

pub one-block : (vs : List ℤ) (a b : List ℕ) → IsBlock vs a → IsBlock vs b → a ≡ b
unfolding made
one-block vs a b (x, h, e) (y, k, f) =
    let s : x.kind ≡ y.kind = h.kind ∙ sym k.kind in
    let h' : IsBlockOf vs (made x.kind x.first x.offset x.factor x.width x.residuals) = h in
    let k' : IsBlockOf vs (made x.kind y.first y.offset y.factor y.width y.residuals) = subst (λ z. IsBlockOf vs (made z y.first y.offset y.factor y.width y.residuals)) (sym s) k in
    e ∙ ap layout (same-block vs x.kind x.first x.offset x.factor x.width y.first y.offset y.factor y.width x.residuals y.residuals h' k') ∙ ap (λ z. layout (made z y.first y.offset y.factor y.width y.residuals)) s ∙ sym f
