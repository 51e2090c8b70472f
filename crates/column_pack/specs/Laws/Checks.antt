use Rattle.std.proofs.Common.{◌≡◌, ◌≢◌, ℕ, suc, zero, ◌+◌, ◌-◌, ◌*◌, ◌^◌, ◌<◌, ◌≤◌, Bool, true, false, List, [], ◌∷◌, length, get_or, drop, map, refl, sym, ◌∙◌, ap, subst, arith, inl, inr}
use Prim.Native.Nat.{◌∣◌}
use Rattle.std.specs.Prelude.{◌↔◌, nat_lt}
use Rattle.std.specs.List.{All, Contains, sum}
use Rattle.std.proofs.lemmas.Bool.{lt-ltb, cases_lt, false≢true}
use Rattle.std.proofs.lemmas.List.Elements.{All-map, All-cons, All-nil, All-head, All-tail}
use Rattle.std.proofs.lemmas.List.{get_or-map, length-map}
use Rattle.std.proofs.Math.Nat.{one-dvd, dvd-mul_right, eq-zero_of_zero-dvd, eq-one_of_dvd-one, mul-dvd-mul_left, dvd_of_mul-dvd-mul_left, mul-one, pow-le-pow_right, mul-le-mul_left}
use Rattle.std.proofs.lemmas.Nat.{mul-le}
use mathlib.Core.Bool.{beq}
use borrow.Author.Tests.{ltb-true}
use Rattle.column_pack.specs.Parts.{numbers_of, HasPlainKind, HasSteps, HasKind, IsSound}
use Rattle.column_pack.specs.Laws.Blocks.{kind_from-same, rises-walk, falls-walk, rises-below_top, falls-below_top}
use Rattle.column_pack.specs.Laws.Sums.{sum-cons, low-among, zero-among, rises-numbers, falls-numbers, numbers-below, below-numbers, greatest-le-sum, sum-le-greatest, sum-numbers}
use Rattle.column_pack.specs.Digits.{greatest_of, IsWidth}
use Rattle.column_pack.specs.Factor.{IsDivisor, IsGreatestFactor, IsFactorBy}
use Rattle.column_pack.specs.Block.{Block, Fits, kind_from, kind_of, rises, falls, walk, turned, below_top, start_of, counted, unused, numbers, low_of}
use Rattle.column_pack.specs.declared.parts.Kind.{Kind}
use Rattle.column_pack.specs.declared.parts.Kind.TheVariants.{Plain, Rising, Falling}
use Rattle.column_pack.specs.Laws.Reduced.{zeros-greatest, greatest-zeros, divisor-zero}

-- ---- a factor is the greatest where nothing divides all residuals

multiple-all : (f c : ℕ) (rs : List ℕ) → All (λ x. c ∣ x) (map (λ r. f * r) rs) → All (λ r. c ∣ f * r) rs
multiple-all f c rs h = λ k d l. subst (λ z. c ∣ z) (get_or-map (λ r. f * r) rs k d 0 l) (h k 0 (omega (arith, length-map rs (λ r. f * r))))

all-multiple : (f c : ℕ) (rs : List ℕ) → All (λ r. c ∣ f * r) rs → All (λ x. c ∣ x) (map (λ r. f * r) rs)
all-multiple f c rs h = All-map (λ x. c ∣ x) (λ r. f * r) rs h

greatest-multiple-zero : (f : ℕ) (rs : List ℕ) → greatest_of rs ≡ 0 → greatest_of (map (λ r. f * r) rs) ≡ 0
greatest-multiple-zero f rs h = zeros-greatest (map (λ r. f * r) rs) (All-map (λ x. x ≡ 0) (λ r. f * r) rs (λ k d l. ap (λ z. f * z) (greatest-zeros rs h k d l) ∙ omega arith))

zero-multiple : (f x : ℕ) → 0 < f → f * x ≡ 0 → x ≡ 0
zero-multiple f zero p h = refl
zero-multiple f (suc x) p h = let m : f * 1 ≤ f * suc x = mul-le-mul_left f (omega arith) in absurd (omega arith)

greatest-zero-multiple : (f : ℕ) (rs : List ℕ) → 0 < f → greatest_of (map (λ r. f * r) rs) ≡ 0 → greatest_of rs ≡ 0
greatest-zero-multiple f rs p h = zeros-greatest rs (λ k d l. zero-multiple f (get_or rs k d) p (sym (get_or-map (λ r. f * r) rs k d 0 l) ∙ greatest-zeros (map (λ r. f * r) rs) h k 0 (omega (arith, length-map rs (λ r. f * r)))))

zero-divisor : (g : ℕ) (rs : List ℕ) → IsDivisor g rs → g ≡ 0 → greatest_of rs ≡ 0
zero-divisor g rs h e = zeros-greatest rs (λ k d l. eq-zero_of_zero-dvd (subst (λ z. z ∣ get_or rs k d) e (h.divides k d l)))

pub factor-from : (f g : ℕ) (rs : List ℕ) → IsDivisor g rs → IsFactorBy f g → IsGreatestFactor f (map (λ r. f * r) rs)
factor-from f g rs h (inl e) = record {
  positive = omega (arith, e.1);
  divides = all-multiple f f rs (λ k d l. subst (λ z. z ∣ f * get_or rs k d) (sym e.1) (one-dvd (f * get_or rs k d)));
  greatest = λ p c all. absurd (omega (arith, greatest-multiple-zero f rs (zero-divisor g rs h e.0)));
  one = λ _. e.1;
}
factor-from f g rs h (inr e) = record {
  positive = e.1;
  divides = all-multiple f f rs (λ k d l. dvd-mul_right f (get_or rs k d));
  greatest = λ p c all. subst (λ z. c ∣ z) (ap (λ z. f * z) e.0 ∙ mul-one f) (h.greatest f c (multiple-all f c rs all));
  one = λ z. absurd (omega (arith, e.0, divisor-zero g rs h (greatest-zero-multiple f rs e.1 z)));
}

pub factor-to : (f g : ℕ) (rs : List ℕ) → IsDivisor g rs → IsGreatestFactor f (map (λ r. f * r) rs) → IsFactorBy f g
factor-to f g rs h k = elim (cases_lt 0 (greatest_of rs)) [
  | inl p ↦ inr (
    eq-one_of_dvd-one (dvd_of_mul-dvd-mul_left g k.positive (subst (λ z. f * g ∣ z) (sym (mul-one f))
        (k.greatest (positive p) (f * g) (all-multiple f (f * g) rs (λ i d l. mul-dvd-mul_left g f (h.divides i d l)))))),
    k.positive,
  )
  | inr p ↦ let z : greatest_of rs ≡ 0 = omega arith in inl (divisor-zero g rs h z, k.one (greatest-multiple-zero f rs z))
]
  where
    positive : 0 < greatest_of rs → 0 < greatest_of (map (λ r. f * r) rs)
    positive p = elim (cases_lt 0 (greatest_of (map (λ r. f * r) rs))) [
      | inl q ↦ q
      | inr q ↦ let z : greatest_of (map (λ r. f * r) rs) ≡ 0 = omega arith in absurd (omega (arith, greatest-zero-multiple f rs k.positive z))
    ]

-- ---- a number has one width

width-le : (a b n : ℕ) → n < 2 ^ a → (0 < b → 2 ^ (b - 1) ≤ n) → b ≤ a
width-le a b n h k = elim (cases_lt a b) [
  | inl l ↦ let p : 2 ^ a ≤ 2 ^ (b - 1) = pow-le-pow_right (omega arith) (omega arith) in absurd (omega (arith, k (omega arith)))
  | inr l ↦ l
]

pub width-unique : (a b n : ℕ) → IsWidth a n → IsWidth b n → a ≡ b
width-unique a b n h k = omega (arith, width-le a b n h.enough k.least, width-le b a n k.enough h.least)

-- ---- residuals without bits

pub no-bits : (rs : List ℕ) → All (λ r. r < 1) rs → greatest_of rs ≡ 0
no-bits rs h = zeros-greatest rs (λ k d l. omega (arith, h k d l))

-- ---- the kind of plain values

pub beq-same : (a b : Bool) → a ≡ b → beq a b ≡ true
beq-same true true e = refl
beq-same false false e = refl
beq-same true false e = cc
beq-same false true e = cc

pub plain-range : (t f g : ℕ) (rs : List ℕ) (up down : Bool) → 0 < length rs → 0 < f → g ≡ greatest_of rs → up ≡ rises rs → down ≡ falls rs → up ≡ down
    → (nat_lt (t + f * g) (2 ^ 64) ≡ true) ↔ HasPlainKind (numbers_of t f rs)
plain-range t f g rs up down p q e a b s = (
  (λ h. record {
    below = numbers-below t f (2 ^ 64) rs (subst (λ z. t + f * z < 2 ^ 64) e (ltb-true (t + f * g) (2 ^ 64) h));
    alike = rises-numbers t f rs q ∙ sym a ∙ s ∙ b ∙ sym (falls-numbers t f rs q);
  }),
  (λ h. lt-ltb (t + f * g) (2 ^ 64) (subst (λ z. t + f * z < 2 ^ 64) (sym e) (below-numbers t f (2 ^ 64) rs p h.below))),
)

pub plain-alike : (t f : ℕ) (rs : List ℕ) (up down : Bool) → 0 < f → up ≡ rises rs → down ≡ falls rs → beq up down ≡ false
    → (beq up down ≡ true) ↔ HasPlainKind (numbers_of t f rs)
plain-alike t f rs up down q a b s = (
  (λ h. cc),
  (λ h. beq-same up down (a ∙ sym (rises-numbers t f rs q) ∙ h.alike ∙ falls-numbers t f rs q ∙ sym b)),
)

-- ---- steps

pub no-steps : (start o f g : ℕ) (rs : List ℕ) → g ≡ greatest_of rs → 2 ^ 64 ≤ o + f * g → HasSteps start (numbers_of o f rs) → ⊥
no-steps start o f g [] e h s = absurd (omega (arith, s.somewhere))
no-steps start o f g (r ∷ rs) e h s =
    let a : 2 ^ 64 ≤ o + f * greatest_of (r ∷ rs) = subst (λ z. 2 ^ 64 ≤ o + f * z) e h in
    omega (arith, greatest-le-sum o f (r ∷ rs) (omega arith), s.below)

pub total-bound : (f g t : ℕ) (rs : List ℕ) → g ≡ greatest_of rs → t ≡ sum rs → length rs < 128 → f * g < 2 ^ 64 → f * t ≤ 127 * 2 ^ 64
total-bound f g t rs e d l h =
    let a : f * sum rs ≤ length rs * (f * greatest_of rs) = sum-le-greatest f rs in
    let b : f * greatest_of rs < 2 ^ 64 = subst (λ z. f * z < 2 ^ 64) e h in
    let c : length rs * (f * greatest_of rs) ≤ 127 * 2 ^ 64 = mul-le (length rs) (f * greatest_of rs) 127 (2 ^ 64) (omega arith) (omega arith) in
    rw d (omega arith)

pub total-is : (o f t : ℕ) (rs : List ℕ) → t ≡ sum rs → o * length rs + f * t ≡ sum (numbers_of o f rs)
total-is o f t rs d = ap (λ z. o * length rs + f * z) d ∙ sym (sum-numbers o f rs)

pub steps-range : (start s n : ℕ) (ns : List ℕ) → s ≡ start → n ≡ sum ns → 0 < n → (nat_lt (s + n) (2 ^ 64) ≡ true) ↔ HasSteps start ns
steps-range start s n ns e d p = (
  (λ h. record { somewhere = omega arith; below = omega (arith, ltb-true (s + n) (2 ^ 64) h) }),
  (λ h. lt-ltb (s + n) (2 ^ 64) (omega (arith, h.below))),
)

pub steps-none : (start n : ℕ) (ns : List ℕ) → n ≡ sum ns → n ≤ 0 → (nat_lt 0 n ≡ true) ↔ HasSteps start ns
steps-none start n ns d p = ((λ h. absurd (omega (arith, ltb-true 0 n h))), (λ h. absurd (omega (arith, h.somewhere))))

pub no-iff : {P : Type 0} → (P → ⊥) → (false ≡ true) ↔ P
no-iff h = ((λ e. absurd (false≢true e)), (λ p. absurd (h p)))

-- ---- the kind of a block

plain-same : (r f : Bool) → Plain ≡ kind_from r f → r ≡ f
plain-same true true e = refl
plain-same false false e = refl
plain-same true false e = cc
plain-same false true e = cc

walk-below : (m s : ℕ) (ss : List ℕ) → s + sum ss < m → All (λ p. p < m) (walk s ss)
walk-below m s [] h = All-cons (λ p. p < m) s [] (omega arith) (All-nil (λ p. p < m))
walk-below m s (x ∷ ss) h = All-cons (λ p. p < m) s (walk (s + x) ss) (omega (arith, sum-cons x ss)) (walk-below m (s + x) ss (omega (arith, sum-cons x ss)))

below-walk : (m s : ℕ) (ss : List ℕ) → All (λ p. p < m) (walk s ss) → s + sum ss < m
below-walk m s [] h = omega (arith, All-head (λ p. p < m) s [] h)
below-walk m s (x ∷ ss) h = omega (arith, sum-cons x ss, below-walk m (s + x) ss (All-tail (λ p. p < m) s (walk (s + x) ss) h))

rising-some : (r : Bool) → Rising ≡ kind_from r false → r ≡ true
rising-some true e = refl
rising-some false e = cc

falling-some : (f : Bool) → Falling ≡ kind_from false f → f ≡ true
falling-some true e = refl
falling-some false e = cc

pub kind-iff-plain : (k : Kind) (first o f w : ℕ) (rs : List ℕ) → k ≡ Plain → HasPlainKind (numbers_of (turned o) f rs) ↔ HasKind (record { kind = k; first = first; offset = o; factor = f; width = w; residuals = rs })
kind-iff-plain Plain first o f w rs e =
    let ns = numbers_of (turned o) f rs in (
      (λ h. record { range = h.below; kind = kind_from-same (rises ns) (falls ns) h.alike }),
      (λ h. record { below = h.range; alike = plain-same (rises ns) (falls ns) h.kind }),
    )
kind-iff-plain Rising first o f w rs e = cc
kind-iff-plain Falling first o f w rs e = cc

pub kind-iff-steps : (k : Kind) (first o f w : ℕ) (rs : List ℕ) → k ≢ Plain → HasSteps (start_of k first) (numbers_of o f (drop 1 rs)) ↔ HasKind (record { kind = k; first = first; offset = o; factor = f; width = w; residuals = rs })
kind-iff-steps Plain first o f w rs ne = absurd (ne refl)
kind-iff-steps Rising first o f w rs ne =
    let s = turned first in
    let ns = numbers_of o f (drop 1 rs) in
    let e : kind_of (walk s ns) ≡ kind_from (nat_lt 0 (sum ns)) false = ap (λ z. kind_from z (falls (walk s ns))) (rises-walk s ns) ∙ ap (λ z. kind_from (nat_lt 0 (sum ns)) z) (falls-walk s ns) in (
      (λ h. record { range = walk-below (2 ^ 64) s ns h.below; kind = sym (e ∙ ap (λ z. kind_from z false) (lt-ltb 0 (sum ns) h.somewhere)) }),
      (λ h. record { somewhere = ltb-true 0 (sum ns) (rising-some (nat_lt 0 (sum ns)) (h.kind ∙ e)); below = below-walk (2 ^ 64) s ns h.range }),
    )
kind-iff-steps Falling first o f w rs ne =
    let s = below_top (turned first) in
    let ns = numbers_of o f (drop 1 rs) in
    let e : All (λ p. p < 2 ^ 64) (walk s ns) → kind_of (map below_top (walk s ns)) ≡ kind_from false (nat_lt 0 (sum ns)) =
    λ a. ap (λ z. kind_from z (falls (map below_top (walk s ns)))) (rises-below_top (walk s ns) a ∙ falls-walk s ns) ∙ ap (λ z. kind_from false z) (falls-below_top (walk s ns) a ∙ rises-walk s ns) in (
      (λ h. let a : All (λ p. p < 2 ^ 64) (walk s ns) = walk-below (2 ^ 64) s ns h.below in record { range = a; kind = sym (e a ∙ ap (λ z. kind_from false z) (lt-ltb 0 (sum ns) h.somewhere)) }),
      (λ h. record { somewhere = ltb-true 0 (sum ns) (falling-some (nat_lt 0 (sum ns)) (h.kind ∙ e h.range)); below = below-walk (2 ^ 64) s ns h.range }),
    )

-- ---- the other parts of a block

pub least-from : (b : Block) → Contains (counted b.kind b.residuals) 0 → Contains (numbers b) (low_of b.kind b.offset)
least-from b h = low-among (low_of b.kind b.offset) b.factor (counted b.kind b.residuals) h

pub least-to : (b : Block) → 0 < b.factor → Contains (numbers b) (low_of b.kind b.offset) → Contains (counted b.kind b.residuals) 0
least-to b p h = zero-among (low_of b.kind b.offset) b.factor (counted b.kind b.residuals) p h

-- the unused residual is 0, so the greatest of all is that of those that count
pub counted-greatest : (k : Kind) (first : ℕ) (rs : List ℕ) → 0 < length rs → unused k first rs ≡ 0 → greatest_of (counted k rs) ≡ greatest_of rs
counted-greatest Plain first rs p h = refl
counted-greatest Rising first [] p h = refl
counted-greatest Rising first (r ∷ rs) p h = rw h (omega arith)
counted-greatest Falling first [] p h = refl
counted-greatest Falling first (r ∷ rs) p h = rw h (omega arith)

pub iff-trans : {P Q R : Type 0} → P ↔ Q → Q ↔ R → P ↔ R
iff-trans (f, f') (g, g') = ((λ p. g (f p)), (λ r. f' (g' r)))

pub rising-not-plain : (k : Kind) → k ≡ Rising → k ≢ Plain
rising-not-plain k e h = cc

pub falling-not-plain : (k : Kind) → k ≡ Falling → k ≢ Plain
falling-not-plain k e h = cc

pub sound-iff : (b : Block) (g w : ℕ) → Fits b → unused b.kind b.first b.residuals ≡ 0 → Contains (counted b.kind b.residuals) 0 → IsDivisor g (counted b.kind b.residuals) → IsFactorBy b.factor g
    → IsWidth w (greatest_of (counted b.kind b.residuals)) → b.width ≡ w → HasKind b ↔ IsSound b
sound-iff b g w fits u z d f width e =
    let all : greatest_of (counted b.kind b.residuals) ≡ greatest_of b.residuals = counted-greatest b.kind b.first b.residuals fits.some u in (
      (λ h. record {
        canonical = record {
          fits = fits;
          unused_zero = u;
          least = least-from b z;
          factor = factor-from b.factor g (counted b.kind b.residuals) d f;
          width = subst (λ v. IsWidth v (greatest_of b.residuals)) (sym e) (subst (λ n. IsWidth w n) all width);
        };
        shape = h;
      }),
      (λ s. s.shape),
    )

pub sound-width : (b : Block) (w : ℕ) → IsWidth w (greatest_of (counted b.kind b.residuals)) → IsSound b → b.width ≡ w
sound-width b w width s =
    let all : greatest_of (counted b.kind b.residuals) ≡ greatest_of b.residuals = counted-greatest b.kind b.first b.residuals s.canonical.fits.some s.canonical.unused_zero in
    width-unique b.width w (greatest_of b.residuals) s.canonical.width (subst (λ n. IsWidth w n) all width)
