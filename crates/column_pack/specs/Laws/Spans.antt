use Rattle.std.proofs.Common.{◌≡◌, ℕ, ℤ, pos, negsuc, suc, ◌+◌, ◌-◌, ◌*◌, ◌^◌, ◌<◌, ◌≤◌, max, List, [], ◌∷◌, length, get_or, map, refl, sym, ◌∙◌, ap, subst, arith, inl, inr}
use Rattle.std.specs.Prelude.{FitsSigned, nat_lt, ◌+ℤ◌, ◌≤ℤ◌}
use Rattle.std.specs.Int.{w64}
use Rattle.std.specs.List.{All, Contains, sum}
use Rattle.std.proofs.lemmas.Int.{ints}
use Rattle.std.proofs.lemmas.Bool.{cases_lt, lt-ltb, le-ltb}
use Rattle.std.proofs.lemmas.Nat.{mul-le}
use Rattle.std.proofs.lemmas.List.Sums.{sum_by-le}
use mathlib.Core.Bool.{cond}
use Rattle.std.proofs.lemmas.List.{get_or-map, length-map}
use Rattle.std.proofs.lemmas.List.Elements.{All-head, All-tail, All-nil, All-cons, All-map, All-weaker}
use Rattle.std.proofs.Math.Nat.{mul-le-mul_left}
use Rattle.column_pack.specs.Block.{walk, height, below_top, place}
use Rattle.column_pack.specs.Digits.{greatest_of}
use Rattle.column_pack.specs.Parts.{numbers_of}
use Rattle.column_pack.specs.Span.{IsSpan}
use Rattle.column_pack.specs.Summary.{IsSummary, total_of}
use Rattle.column_pack.specs.declared.summary.Span.{Span}
use Rattle.column_pack.specs.declared.parts.Kind.{Kind}
use Rattle.column_pack.specs.declared.parts.Kind.TheVariants.{Plain, Rising, Falling}
use Rattle.column_pack.specs.Laws.Sums.{sum-cons, sum-numbers, below-numbers, sum-le-greatest, low-among}
use Rattle.column_pack.specs.Laws.Reduced.{greatest_bounds}

contains-more : (x y : ℕ) (xs : List ℕ) → Contains xs y → Contains (x ∷ xs) y
contains-more x y xs (k, l, e) = (suc k, omega arith, e)

contains-map : (f : ℕ → ℕ) (xs : List ℕ) (x : ℕ) → Contains xs x → Contains (map f xs) (f x)
contains-map f xs x (k, l, e) = (k, omega (arith, length-map xs f), get_or-map f xs k x (f x) l ∙ ap f e)

-- ---- numbers

greatest-among : (xs : List ℕ) → 0 < length xs → Contains xs (greatest_of xs)
greatest-among [] h = absurd (omega arith)
greatest-among (x ∷ []) h = let e : x ≡ max x 0 = omega arith in (0, omega arith, e)
greatest-among (x ∷ y ∷ xs) h = elim (cases_lt x (greatest_of (y ∷ xs))) [
  | inl l ↦ let e : max x (greatest_of (y ∷ xs)) ≡ greatest_of (y ∷ xs) = omega arith in rw e (contains-more x (greatest_of (y ∷ xs)) (y ∷ xs) (greatest-among (y ∷ xs) (omega arith)))
  | inr l ↦ let e : x ≡ max x (greatest_of (y ∷ xs)) = omega arith in (0, omega arith, e)
]

pub numbers-all-above : (o f : ℕ) (rs : List ℕ) → All (λ p. o ≤ p) (numbers_of o f rs)
numbers-all-above o f [] = All-nil (λ p. o ≤ p)
numbers-all-above o f (r ∷ rs) = All-cons (λ p. o ≤ p) (o + f * r) (numbers_of o f rs) (omega arith) (numbers-all-above o f rs)

numbers-all-below : (o f g : ℕ) (rs : List ℕ) → All (λ r. r ≤ g) rs → All (λ p. p ≤ o + f * g) (numbers_of o f rs)
numbers-all-below o f g [] h = All-nil (λ p. p ≤ o + f * g)
numbers-all-below o f g (r ∷ rs) h =
    let m : f * r ≤ f * g = mul-le-mul_left f (All-head (λ r. r ≤ g) r rs h) in
    All-cons (λ p. p ≤ o + f * g) (o + f * r) (numbers_of o f rs) (omega arith) (numbers-all-below o f g rs (All-tail (λ r. r ≤ g) r rs h))

pub plain-span : (o f g t : ℕ) (rs : List ℕ) → 0 < length rs → Contains rs 0 → g ≡ greatest_of rs → t ≡ sum rs
    → IsSpan (numbers_of o f rs) (record { least = o; greatest = o + f * g; total = o * length rs + f * t })
plain-span o f g t rs p z e d = record {
  below = numbers-all-above o f rs;
  least_among = low-among o f rs z;
  above = numbers-all-below o f g rs (subst (λ n. All (λ r. r ≤ n) rs) (sym e) (greatest_bounds rs));
  greatest_among = subst (λ n. Contains (numbers_of o f rs) (o + f * n)) (sym e) (contains-map (λ d. o + d) (map (λ r. f * r) rs) (f * greatest_of rs) (contains-map (λ r. f * r) rs (greatest_of rs) (greatest-among rs p)));
  whole = ap (λ n. o * length rs + f * n) d ∙ sym (sum-numbers o f rs);
}

-- ---- places that steps lead to

walk-above : (m s : ℕ) (ss : List ℕ) → m ≤ s → All (λ p. m ≤ p) (walk s ss)
walk-above m s [] h = All-cons (λ p. m ≤ p) s [] h (All-nil (λ p. m ≤ p))
walk-above m s (x ∷ ss) h = All-cons (λ p. m ≤ p) s (walk (s + x) ss) h (walk-above m (s + x) ss (omega arith))

walk-end : (s : ℕ) (ss : List ℕ) → All (λ p. p ≤ s + sum ss) (walk s ss)
walk-end s [] = All-cons (λ p. p ≤ s + 0) s [] (omega arith) (All-nil (λ p. p ≤ s + 0))
walk-end s (x ∷ ss) =
    let e : s + sum (x ∷ ss) ≡ s + x + sum ss = omega (arith, sum-cons x ss) in
    rw e (All-cons (λ p. p ≤ s + x + sum ss) s (walk (s + x) ss) (omega arith) (walk-end (s + x) ss))

walk-first : (s : ℕ) (ss : List ℕ) → Contains (walk s ss) s
walk-first s [] = (0, omega arith, refl)
walk-first s (x ∷ ss) = (0, omega arith, refl)

walk-last : (s : ℕ) (ss : List ℕ) → Contains (walk s ss) (s + sum ss)
walk-last s [] = let e : s ≡ s + 0 = omega arith in (0, omega arith, e)
walk-last s (x ∷ ss) = let e : s + sum (x ∷ ss) ≡ s + x + sum ss = omega (arith, sum-cons x ss) in rw e (contains-more s (s + x + sum ss) (walk (s + x) ss) (walk-last (s + x) ss))

pub steps-span : (s o f t z : ℕ) (rs : List ℕ) → t ≡ sum rs → z ≡ sum (walk s (numbers_of o f rs))
    → IsSpan (walk s (numbers_of o f rs)) (record { least = s; greatest = s + (o * length rs + f * t); total = z })
steps-span s o f t z rs d e =
    let n : o * length rs + f * t ≡ sum (numbers_of o f rs) = ap (λ n. o * length rs + f * n) d ∙ sym (sum-numbers o f rs) in
    record {
      below = walk-above s s (numbers_of o f rs) (omega arith);
      least_among = walk-first s (numbers_of o f rs);
      above = rw n (walk-end s (numbers_of o f rs));
      greatest_among = rw n (walk-last s (numbers_of o f rs));
      whole = e;
    }

pub flip-sum : (ps : List ℕ) → All (λ p. p < 2 ^ 64) ps → sum (map below_top ps) + sum ps ≡ length ps * (2 ^ 64 - 1)
flip-sum [] h = refl
flip-sum (p ∷ ps) h =
    let l : p < 2 ^ 64 = All-head (λ p. p < 2 ^ 64) p ps h in
    let ih : sum (map below_top ps) + sum ps ≡ length ps * (2 ^ 64 - 1) = flip-sum ps (All-tail (λ p. p < 2 ^ 64) p ps h) in
    omega (arith, sum-cons p ps, sum-cons (below_top p) (map below_top ps))

pub flip-span : (ps : List ℕ) (s : Span) → All (λ p. p < 2 ^ 64) ps → IsSpan ps s
    → IsSpan (map below_top ps) (record { least = 2 ^ 64 - 1 - s.greatest; greatest = 2 ^ 64 - 1 - s.least; total = length ps * (2 ^ 64 - 1) - s.total })
flip-span ps s h i = record {
  below = All-map (λ p. 2 ^ 64 - 1 - s.greatest ≤ p) below_top ps (All-weaker (λ p. p ≤ s.greatest) (λ p. 2 ^ 64 - 1 - s.greatest ≤ below_top p) (λ p. λ l. omega arith) ps i.above);
  least_among = contains-map below_top ps s.greatest i.greatest_among;
  above = All-map (λ p. p ≤ 2 ^ 64 - 1 - s.least) below_top ps (All-weaker (λ p. s.least ≤ p) (λ p. below_top p ≤ 2 ^ 64 - 1 - s.least) (λ p. λ l. omega arith) ps i.below);
  greatest_among = contains-map below_top ps s.least i.least_among;
  whole = omega (arith, flip-sum ps h, i.whole);
}

-- ---- values by their heights

pub height-le : (a b : ℤ) → FitsSigned w64 a → FitsSigned w64 b → height a ≤ height b → a ≤ℤ b
height-le (pos m) (pos n) f g h = omega (arith, ints)
height-le (pos m) (negsuc n) f g h = absurd (omega (arith, g.sfits))
height-le (negsuc m) (pos n) f g h = omega (arith, ints)
height-le (negsuc m) (negsuc n) f g h = let k : n ≤ m = omega (arith, f.sfits, g.sfits) in omega (arith, ints)

pub height-same : (a b : ℤ) → FitsSigned w64 a → FitsSigned w64 b → height a ≡ height b → a ≡ b
height-same (pos m) (pos n) f g h = ap pos (omega arith)
height-same (pos m) (negsuc n) f g h = absurd (omega (arith, g.sfits))
height-same (negsuc m) (pos n) f g h = absurd (omega (arith, f.sfits))
height-same (negsuc m) (negsuc n) f g h = ap negsuc (omega (arith, f.sfits, g.sfits))

pub height-is : (v : ℤ) → FitsSigned w64 v → pos (height v) ≡ v +ℤ pos (2 ^ 63)
height-is (pos n) f = refl
height-is (negsuc n) f = omega (arith, ints, f.sfits)

heights-total : (vs : List ℤ) → All (FitsSigned w64) vs → pos (sum (map height vs)) ≡ total_of vs +ℤ pos (length vs * 2 ^ 63)
heights-total [] h = refl
heights-total (v ∷ vs) h =
    let f : FitsSigned w64 v = All-head (FitsSigned w64) v vs h in
    let ih : pos (sum (map height vs)) ≡ total_of vs +ℤ pos (length vs * 2 ^ 63) = heights-total vs (All-tail (FitsSigned w64) v vs h) in
    omega (arith, ints, sum-cons (height v) (map height vs), height-is v f)

pub greatest-number : (o f g : ℕ) (rs : List ℕ) → g ≡ greatest_of rs → 0 < length rs → All (λ n. n < 2 ^ 64) (numbers_of o f rs) → o + f * g < 2 ^ 64
greatest-number o f g rs e p h = subst (λ n. o + f * n < 2 ^ 64) (sym e) (below-numbers o f (2 ^ 64) rs p h)

pub whole-bound : (f g t : ℕ) (rs : List ℕ) → g ≡ greatest_of rs → t ≡ sum rs → length rs ≤ 128 → f * g < 2 ^ 64 → f * t ≤ 128 * 2 ^ 64
whole-bound f g t rs e d l h =
    let a : f * sum rs ≤ length rs * (f * greatest_of rs) = sum-le-greatest f rs in
    let b : f * greatest_of rs < 2 ^ 64 = subst (λ z. f * z < 2 ^ 64) e h in
    let c : length rs * (f * greatest_of rs) ≤ 128 * 2 ^ 64 = mul-le (length rs) (f * greatest_of rs) 128 (2 ^ 64) l (omega arith) in
    rw d (omega arith)

pub rise-is : (o f t : ℕ) (rs : List ℕ) → t ≡ sum rs → o * length rs + f * t ≡ sum (numbers_of o f rs)
rise-is o f t rs d = ap (λ n. o * length rs + f * n) d ∙ sym (sum-numbers o f rs)

-- ---- a list of values at some places

valued : ℕ → ℤ
valued h = cond (nat_lt h (2 ^ 63)) (negsuc (2 ^ 63 - 1 - h)) (pos (h - 2 ^ 63))

valued-height : (h : ℕ) → h < 2 ^ 64 → height (valued h) ≡ h
unfolding valued
valued-height h l = elim (cases_lt h (2 ^ 63)) [
  | inl k ↦ rw (lt-ltb h (2 ^ 63) k) (omega arith)
  | inr k ↦ rw (le-ltb h (2 ^ 63) k) (omega arith)
]

valued-signed : (h : ℕ) → h < 2 ^ 64 → FitsSigned w64 (valued h)
unfolding valued
valued-signed h l = elim (cases_lt h (2 ^ 63)) [
  | inl k ↦ rw (lt-ltb h (2 ^ 63) k) (record { sfits = omega arith })
  | inr k ↦ rw (le-ltb h (2 ^ 63) k) (record { sfits = omega arith })
]

pub values-at : Kind → List ℕ → List ℤ
values-at Plain ps = map valued ps
values-at Rising ps = map valued ps
values-at Falling ps = map (λ p. valued (below_top p)) ps

placed-up : (ps : List ℕ) → All (λ p. p < 2 ^ 64) ps → map height (map valued ps) ≡ ps
placed-up [] h = refl
placed-up (p ∷ ps) h = rw (valued-height p (All-head (λ p. p < 2 ^ 64) p ps h), placed-up ps (All-tail (λ p. p < 2 ^ 64) p ps h)) refl

placed-down : (ps : List ℕ) → All (λ p. p < 2 ^ 64) ps → map (place Falling) (map (λ p. valued (below_top p)) ps) ≡ ps
placed-down [] h = refl
placed-down (p ∷ ps) h =
    let l : p < 2 ^ 64 = All-head (λ p. p < 2 ^ 64) p ps h in
    let e : below_top (height (valued (below_top p))) ≡ p = ap below_top (valued-height (below_top p) (omega arith)) ∙ omega arith in
    rw (e, placed-down ps (All-tail (λ p. p < 2 ^ 64) p ps h)) refl

pub placed : (k : Kind) (ps : List ℕ) → All (λ p. p < 2 ^ 64) ps → map (place k) (values-at k ps) ≡ ps
unfolding values-at
placed Plain ps h = placed-up ps h
placed Rising ps h = placed-up ps h
placed Falling ps h = placed-down ps h

pub placed-signed : (k : Kind) (ps : List ℕ) → All (λ p. p < 2 ^ 64) ps → All (FitsSigned w64) (values-at k ps)
unfolding values-at
placed-signed Plain ps h = All-map (FitsSigned w64) valued ps (All-weaker (λ p. p < 2 ^ 64) (λ p. FitsSigned w64 (valued p)) valued-signed ps h)
placed-signed Rising ps h = All-map (FitsSigned w64) valued ps (All-weaker (λ p. p < 2 ^ 64) (λ p. FitsSigned w64 (valued p)) valued-signed ps h)
placed-signed Falling ps h = All-map (FitsSigned w64) (λ p. valued (below_top p)) ps (All-weaker (λ p. p < 2 ^ 64) (λ p. FitsSigned w64 (valued (below_top p))) (λ p l. valued-signed (below_top p) (omega arith)) ps h)

-- ---- a span of heights is a summary of values

pub summary-from : (vs : List ℤ) (s : Span) (n : ℕ) (min max sum : ℤ) → All (FitsSigned w64) vs → IsSpan (map height vs) s → n ≡ length vs
    → FitsSigned w64 min → FitsSigned w64 max → height min ≡ s.least → height max ≡ s.greatest → sum +ℤ pos (n * 2 ^ 63) ≡ pos s.total
    → IsSummary vs (record { n = n; min = min; max = max; sum = sum })
summary-from vs s n min max sum h i len fmin fmax e1 e2 e3 = record {
  number = len;
  least = λ k d l. height-le min (get_or vs k d) fmin (h k d l) (rw e1 (subst (λ z. s.least ≤ z) (get_or-map height vs k d 0 l) (i.below k 0 (omega (arith, length-map vs height)))));
  least_among = among min fmin s.least e1 i.least_among;
  greatest = λ k d l. height-le (get_or vs k d) max (h k d l) fmax (rw e2 (subst (λ z. z ≤ s.greatest) (get_or-map height vs k d 0 l) (i.above k 0 (omega (arith, length-map vs height)))));
  greatest_among = among max fmax s.greatest e2 i.greatest_among;
  total =
      let t : pos s.total ≡ total_of vs +ℤ pos (length vs * 2 ^ 63) = ap pos i.whole ∙ heights-total vs h in
      let c : n * 2 ^ 63 ≡ length vs * 2 ^ 63 = ap (λ z. z * 2 ^ 63) len in
      omega (arith, ints);
}
  where
    among : (v : ℤ) → FitsSigned w64 v → (g : ℕ) → height v ≡ g → Contains (map height vs) g → Contains vs v
    among v f g e (k, l, q) =
        let m : k < length vs = omega (arith, length-map vs height) in
        (k, m, height-same (get_or vs k v) v (h k v m) f (sym (get_or-map height vs k v g m) ∙ q ∙ sym e))

pub span-total : (hs : List ℕ) (s : Span) → IsSpan hs s → length hs ≤ 128 → s.greatest < 2 ^ 64 → s.total ≤ 128 * 2 ^ 64
span-total hs s i l h =
    let a : sum hs ≤ length hs * s.greatest = sum_by-le (λ x. x) s.greatest hs i.above in
    let b : length hs * s.greatest ≤ 128 * 2 ^ 64 = mul-le (length hs) s.greatest 128 (2 ^ 64) l (omega arith) in
    omega (arith, i.whole)
