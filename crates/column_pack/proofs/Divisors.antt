use Rattle.std.proofs.Common.{◌≡◌, ℕ, suc, zero, ◌+◌, ◌-◌, ◌*◌, ◌/◌, ◌%◌, ◌^◌, ◌<◌, ◌≤◌, max, List, [], ◌∷◌, ◌++◌, length, get_or, take, refl, sym, ◌∙◌, ap, subst, arith}
use Prim.Native.Nat.{◌∣◌}
use Rattle.std.specs.List.{All}
use Rattle.std.proofs.lemmas.List.{take_more, get_or_at, get_or_append_left, length-append}
use Rattle.std.proofs.lemmas.List.Recursion.{max_push}
use Rattle.std.proofs.lemmas.List.Elements.{All-weaker, All-push, All-take, All-more}
use Rattle.std.proofs.lemmas.Nat.{leading_length, div-add-mod'}
use Rattle.std.proofs.lemmas.Nat.Gcd.{dvd_refl, dvd-zero, dvd_trans}
use Rattle.std.proofs.Math.Nat.{one-dvd, le_trans, pow-suc, dvd-add, dvd-sub, dvd-mul_left_of_dvd}
use lib.Count.{count_leading_zeros}
use Rattle.column_pack.specs.Digits.{greatest_of, IsWidth}
use Rattle.column_pack.specs.Factor.{IsDivisor, IsGcdOf}

-- one number more
pub greatest_more : (xs : List ℕ) (i : ℕ) → i < length xs → greatest_of (take (i + 1) xs) ≡ max (greatest_of (take i xs)) (get_or xs i 0)
greatest_more xs i h = ap greatest_of (take_more xs i 0 h) ∙ max_push greatest_of (λ x. x) refl (λ _ _. refl) (take i xs) (get_or xs i 0)

rest-times : (a b times : ℕ) → times * a - a / b * (times * b) ≡ times * (a % b)
rest-times a b times = let e : times * (a / b * b + a % b) ≡ times * a = ap (λ z. times * z) (div-add-mod' a b) in omega arith

-- one step of Euclid's
pub IsGcdOf-step : (a b g : ℕ) → IsGcdOf b (a % b) g → IsGcdOf a b g
IsGcdOf-step a b g h = record {
  first = subst (λ z. g ∣ z) (div-add-mod' a b) (dvd-add g (dvd-mul_left_of_dvd g h.first (a / b)) h.second);
  second = h.first;
  greatest = λ times c p q. h.greatest times c q (subst (λ z. c ∣ z) (rest-times a b times) (dvd-sub c p (dvd-mul_left_of_dvd c q (a / b))));
}

pub IsGcdOf-end : (a b : ℕ) → b ≡ 0 → IsGcdOf a b a
IsGcdOf-end a b e = record {
  first = dvd_refl a;
  second = subst (λ z. a ∣ z) (sym e) (dvd-zero a);
  greatest = λ times c p q. p;
}

pub IsDivisor-more : (xs : List ℕ) (y d g : ℕ) → IsDivisor d xs → IsGcdOf y d g → IsDivisor g (xs ++ y ∷ [])
IsDivisor-more xs y d g h e = record {
  divides = All-push (λ x. g ∣ x) xs y (All-weaker (λ x. d ∣ x) (λ x. g ∣ x) (λ x. dvd_trans g e.second) xs h.divides) e.first;
  greatest = λ times c all. e.greatest times c
      (subst (λ z. c ∣ times * z) (get_or_at xs y [] 0 (length xs) refl) (all (length xs) 0 (simp length-append (omega arith))))
      (h.greatest times c (λ k d l. subst (λ z. c ∣ times * z) (get_or_append_left xs (y ∷ []) d k l) (all k d (simp length-append (omega arith)))));
}

pub IsDivisor-one : (xs : List ℕ) (i : ℕ) → IsDivisor 1 (take i xs) → IsDivisor 1 xs
IsDivisor-one xs i h = record {
  divides = λ k d l. one-dvd (get_or xs k d);
  greatest = λ times c all. h.greatest times c (All-take (λ x. c ∣ times * x) i xs all);
}

half : (a m : ℕ) → 2 ^ suc m ≤ 2 * a + 1 → 2 ^ (suc m - 1) ≤ a
half a m k = let e : 2 ^ suc m ≡ 2 ^ m * 2 = pow-suc 2 m in let s : suc m - 1 ≡ m = omega arith in rw s (omega arith)

IsWidth-leading : (a m : ℕ) → a < 2 ^ m → 2 ^ m ≤ 2 * a + 1 → IsWidth m a
IsWidth-leading a zero h k = record { enough = h; least = λ p. absurd (omega arith) }
IsWidth-leading a (suc m) h k = record { enough = h; least = λ _. half a m k }

pub IsWidth-of : (a : ℕ) → a < 2 ^ 64 → IsWidth (64 - count_leading_zeros 64 a) a
IsWidth-of a h = let l = leading_length 64 a h in
    let e : 64 - count_leading_zeros 64 a ≡ l.0 = omega (arith, l.1) in rw e (IsWidth-leading a l.0 l.2 l.3)

-- one number more, where what is kept isn't above it
pub below_more : (xs : List ℕ) (i m n : ℕ) → i < length xs → All (λ x. m ≤ x) (take i xs) → n ≤ m → n ≤ get_or xs i 0 → All (λ x. n ≤ x) (take (i + 1) xs)
below_more xs i m n h all p q = All-more (λ x. n ≤ x) xs i 0 h (All-weaker (λ x. m ≤ x) (λ x. n ≤ x) (λ x. λ k. le_trans p k) (take i xs) all) q
