-- Equal heights, which need no residuals.
use Rattle.std.proofs.Common.{◌≡◌, ◌≢◌, ℕ, suc, zero, ◌+◌, ◌*◌, ◌%◌, ◌^◌, ◌<◌, ◌≤◌, Bool, true, false, List, [], ◌∷◌, length, get_or, map, take, replicate, refl, sym, ◌∙◌, ap, subst, arith, inl, inr}
use Rattle.std.specs.Prelude.{◌||◌, nat_lt}
use Rattle.std.specs.List.{All, Contains}
use Rattle.std.proofs.lemmas.Bool.{lt-ltb, cases_lt, false≢true}
use Rattle.std.proofs.lemmas.List.Elements.{All-head, All-tail, All-cons, All-nil}
use Rattle.column_pack.specs.Block.{Block, IsCanonical, rises, falls, rises_after, falls_after, turned, places_of}
use Rattle.column_pack.specs.Parts.{numbers_of}
use Rattle.column_pack.specs.declared.parts.Kind.TheVariants.{Plain}
use Rattle.column_pack.specs.Laws.Checks.{factor-from}
use Rattle.column_pack.specs.Laws.Reduced.{zeros-greatest}
use Rattle.column_pack.proofs.Spreads.{zeros-divisor}
use Rattle.column_pack.specs.Laws.Sums.{low-among}

neither : (a b : ℕ) → nat_lt a b ≡ false → nat_lt b a ≡ false → b ≡ a
neither a b p q = elim (cases_lt a b) [
  | inl l ↦ absurd (false≢true (sym p ∙ lt-ltb a b l))
  | inr l ↦ elim (cases_lt b a) [
    | inl m ↦ absurd (false≢true (sym q ∙ lt-ltb b a m))
    | inr m ↦ omega arith
  ]
]

or-first : (a b : Bool) → (a || b) ≡ false → a ≡ false
or-first true b e = e
or-first false b e = refl

or-second : (a b : Bool) → (a || b) ≡ false → b ≡ false
or-second true b e = absurd (false≢true (sym e))
or-second false b e = e

level-after : (x : ℕ) (xs : List ℕ) → rises_after x xs ≡ false → falls_after x xs ≡ false → All (λ y. y ≡ x) xs
level-after x [] p q = All-nil (λ y. y ≡ x)
level-after x (y ∷ ys) p q =
    let e : y ≡ x = neither x y (or-first (nat_lt x y) (rises_after y ys) p) (or-first (nat_lt y x) (falls_after y ys) q) in
    All-cons (λ z. z ≡ x) y ys e (subst (λ w. All (λ z. z ≡ w) ys) e (level-after y ys (or-second (nat_lt x y) (rises_after y ys) p) (or-second (nat_lt y x) (falls_after y ys) q)))

pub zeros-all : (rs : List ℕ) → ((k : ℕ) → get_or rs k 0 ≡ 0) → All (λ r. r ≡ 0) rs
zeros-all [] h = All-nil (λ r. r ≡ 0)
zeros-all (r ∷ rs) h = All-cons (λ r. r ≡ 0) r rs (h 0) (zeros-all rs (λ k. h (suc k)))

level-numbers : (x : ℕ) (hs rs : List ℕ) → length rs ≡ length hs → All (λ y. y ≡ x) hs → All (λ r. r ≡ 0) rs → numbers_of x 1 rs ≡ hs
level-numbers x [] [] n h z = refl
level-numbers x [] (r ∷ rs) n h z = absurd (omega arith)
level-numbers x (y ∷ ys) [] n h z = absurd (omega arith)
level-numbers x (y ∷ ys) (r ∷ rs) n h z =
    let a : x + 1 * r ≡ y = omega (arith, All-head (λ w. w ≡ x) y ys h, All-head (λ w. w ≡ 0) r rs z) in
    ap (λ w. w ∷ numbers_of x 1 rs) a ∙ ap (λ w. y ∷ w) (level-numbers x ys rs (omega arith) (All-tail (λ w. w ≡ x) y ys h) (All-tail (λ w. w ≡ 0) r rs z))

pub level-places : (o : ℕ) (hs rs : List ℕ) → length rs ≡ length hs → rises hs ≡ false → falls hs ≡ false → ((k : ℕ) → get_or rs k 0 ≡ 0) → o ≡ get_or hs 0 0 → numbers_of o 1 rs ≡ hs
level-places o [] [] n p q z e = refl
level-places o [] (r ∷ rs) n p q z e = absurd (omega arith)
level-places o (x ∷ xs) rs n p q z e = ap (λ w. numbers_of w 1 rs) e ∙ level-numbers x (x ∷ xs) rs n (All-cons (λ y. y ≡ x) x xs refl (level-after x xs p q)) (zeros-all rs z)

pub level-canonical : (o : ℕ) (rs : List ℕ) → 0 < length rs → length rs ≤ 128 → o < 2 ^ 64 → ((k : ℕ) → get_or rs k 0 ≡ 0)
    → IsCanonical (record { kind = Plain; first = 0; offset = o; factor = 1; width = 0; residuals = rs })
level-canonical o rs some few lt z =
    let all = zeros-all rs z in
    let g = zeros-greatest rs all in
    record {
      fits = record { some = some; few = few; first = omega arith; offset = lt; factor = omega arith; width = omega arith };
      unused_zero = refl;
      least = low-among (turned o) 1 rs (0, some, z 0);
      factor = factor-from 1 0 rs (zeros-divisor rs all) (inl (refl, refl));
      width = record { enough = omega (arith, g); least = λ h. absurd (omega (arith, h)) };
    }

pub turned-twice : (x : ℕ) → x < 2 ^ 64 → turned (turned x) ≡ x
turned-twice x h = omega arith

pub zeros-take : (m n k : ℕ) → get_or {A = ℕ} (take m (replicate n 0)) k 0 ≡ 0
zeros-take zero n k = refl
zeros-take (suc m) zero k = refl
zeros-take (suc m) (suc n) zero = refl
zeros-take (suc m) (suc n) (suc k) = zeros-take m n k
