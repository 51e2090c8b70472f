use Rattle.std.proofs.Common.{◌≡◌, ℕ, suc, zero, ◌+◌, ◌-◌, ◌*◌, ◌/◌, ◌<◌, ◌≤◌, List, [], ◌∷◌, ◌++◌, length, get_or, take, drop, set, map, refl, sym, ◌∙◌, ap, subst, arith}
use Prim.Native.Nat.{◌∣◌}
use Rattle.std.specs.List.{All, Contains}
use Rattle.std.proofs.lemmas.List.{take_more, drop_more, set_at, get_or_at, map-append, append_assoc, length-map, length-take-le}
use Rattle.std.proofs.lemmas.List.Recursion.{max_bounds, max_least}
use Rattle.std.proofs.lemmas.List.Elements.{All-head, All-tail}
use Rattle.std.proofs.lemmas.Nat.{div-add-mod'}
use Rattle.std.proofs.lemmas.Nat.Gcd.{dvd-zero, mod-eq-zero_of_dvd}
use Rattle.std.proofs.Math.Nat.{one-dvd, eq-zero_of_zero-dvd, one-mul}
use Rattle.column_pack.specs.Digits.{greatest_of}
use Rattle.column_pack.specs.Factor.{IsDivisor, IsGreatestFactor}
use Rattle.column_pack.specs.Parts.{IsReduced}

-- ---- a list of which the front is mapped

module _ (f : ℕ → ℕ) (xs : List ℕ) (i : ℕ) (h : i < length xs) where
  part-is : map f (take i xs) ++ drop i xs ≡ map f (take i xs) ++ get_or xs i 0 ∷ drop (i + 1) xs
  part-is = ap (λ ys. map f (take i xs) ++ ys) (drop_more xs i 0 h)

  part-length : length (map f (take i xs)) ≡ i
  part-length = length-map (take i xs) f ∙ length-take-le i xs (omega arith)

  pub mapped-at : get_or (map f (take i xs) ++ drop i xs) i 0 ≡ get_or xs i 0
  mapped-at = ap (λ ys. get_or ys i 0) part-is ∙ get_or_at (map f (take i xs)) (get_or xs i 0) (drop (i + 1) xs) 0 i part-length

  pub mapped-more : set (map f (take i xs) ++ drop i xs) i (f (get_or xs i 0)) ≡ map f (take (i + 1) xs) ++ drop (i + 1) xs
  mapped-more =
      ap (λ ys. set ys i (f (get_or xs i 0))) part-is
      ∙ set_at (map f (take i xs)) (get_or xs i 0) (drop (i + 1) xs) (f (get_or xs i 0)) i part-length
      ∙ sym (append_assoc (map f (take i xs)) (f (get_or xs i 0) ∷ []) (drop (i + 1) xs))
      ∙ ap (λ ys. ys ++ drop (i + 1) xs) (sym (ap (map f) (take_more xs i 0 h) ∙ map-append f (take i xs) (get_or xs i 0 ∷ [])))

-- ---- the greatest is 0 where all are

pub greatest_bounds : (xs : List ℕ) → All (λ x. x ≤ greatest_of xs) xs
greatest_bounds xs = λ k d l. max_bounds greatest_of (λ x. x) refl (λ _ _. refl) xs k d l

pub zeros-greatest : (xs : List ℕ) → All (λ x. x ≡ 0) xs → greatest_of xs ≡ 0
zeros-greatest xs h = let m : greatest_of xs ≤ 0 = max_least greatest_of (λ x. x) refl (λ _ _. refl) xs 0 0 (λ i l. omega (arith, h i 0 l)) in omega arith

pub greatest-zeros : (xs : List ℕ) → greatest_of xs ≡ 0 → All (λ x. x ≡ 0) xs
greatest-zeros xs h = λ k d l. omega (arith, greatest_bounds xs k d l)

-- ---- the greatest factor

pub exact : (g x : ℕ) → g ∣ x → g * (x / g) ≡ x
exact g x h = omega (arith, div-add-mod' x g, mod-eq-zero_of_dvd g h)

exact-all : (g : ℕ) (xs : List ℕ) → All (λ x. g ∣ x) xs → map (λ r. g * r) (map (λ x. x / g) xs) ≡ xs
exact-all g [] h = refl
exact-all g (x ∷ xs) h = rw (exact g x (All-head (λ x. g ∣ x) x xs h), exact-all g xs (All-tail (λ x. g ∣ x) x xs h)) refl

map-one : (xs : List ℕ) → map (λ r. 1 * r) xs ≡ xs
map-one [] = refl
map-one (x ∷ xs) = rw (one-mul x, map-one xs) refl

restored : (m : ℕ) (xs : List ℕ) → All (λ x. m ≤ x) xs → map (λ d. m + d) (map (λ x. x - m) xs) ≡ xs
restored m [] h = refl
restored m (x ∷ xs) h =
    let p : m ≤ x = All-head (λ x. m ≤ x) x xs h in
    let e : m + (x - m) ≡ x = omega arith in
    rw (e, restored m xs (All-tail (λ x. m ≤ x) x xs h)) refl

pub divisor-zero : (g : ℕ) (xs : List ℕ) → IsDivisor g xs → greatest_of xs ≡ 0 → g ≡ 0
divisor-zero g xs h z =
    let d : 0 ∣ 1 * g = h.greatest 1 0 (λ k e l. let o : 1 * get_or xs k e ≡ 0 = omega (arith, greatest-zeros xs z k e l) in subst (λ y. 0 ∣ y) (sym o) (dvd-zero 0)) in
    let e : 1 * g ≡ 0 = eq-zero_of_zero-dvd d in omega arith

pub IsGreatestFactor-divisor : (g : ℕ) (xs : List ℕ) → 1 < g → IsDivisor g xs → IsGreatestFactor g xs
IsGreatestFactor-divisor g xs p h = record {
  positive = omega arith;
  divides = h.divides;
  greatest = λ _ c all. subst (λ z. c ∣ z) (one-mul g) (h.greatest 1 c (λ k d l. subst (λ z. c ∣ z) (sym (one-mul (get_or xs k d))) (all k d l)));
  one = λ z. absurd (omega (arith, divisor-zero g xs h z));
}

pub IsGreatestFactor-one : (g : ℕ) (xs : List ℕ) → g ≤ 1 → IsDivisor g xs → IsGreatestFactor 1 xs
IsGreatestFactor-one g xs p h = record {
  positive = omega arith;
  divides = λ k d l. one-dvd (get_or xs k d);
  greatest = λ q c all. go g p h q c (h.greatest 1 c (λ k d l. subst (λ z. c ∣ z) (sym (one-mul (get_or xs k d))) (all k d l)));
  one = λ _. refl;
}
  where
    go : (g : ℕ) → g ≤ 1 → IsDivisor g xs → 0 < greatest_of xs → (c : ℕ) → c ∣ 1 * g → c ∣ 1
    go zero p h q c d = absurd (omega (arith, zeros-greatest xs (λ k e l. eq-zero_of_zero-dvd (h.divides k e l))))
    go (suc n) p h q c d = let e : 1 * suc n ≡ 1 = omega arith in subst (λ z. c ∣ z) e d

pub IsReduced-divided : (ns xs : List ℕ) (m g : ℕ) → All (λ x. m ≤ x) ns → Contains ns m → xs ≡ map (λ x. x - m) ns → 1 < g → IsDivisor g xs → IsReduced ns m g (map (λ x. x / g) xs)
IsReduced-divided ns xs m g low among e p h = record {
  numbers = ap (map (λ d. m + d)) (exact-all g xs h.divides ∙ e) ∙ restored m ns low;
  among = among;
  greatest = rw (exact-all g xs h.divides) (IsGreatestFactor-divisor g xs p h);
}

pub IsReduced-whole : (ns xs : List ℕ) (m g : ℕ) → All (λ x. m ≤ x) ns → Contains ns m → xs ≡ map (λ x. x - m) ns → g ≤ 1 → IsDivisor g xs → IsReduced ns m 1 xs
IsReduced-whole ns xs m g low among e p h = record {
  numbers = ap (map (λ d. m + d)) (map-one xs ∙ e) ∙ restored m ns low;
  among = among;
  greatest = rw (map-one xs) (IsGreatestFactor-one g xs p h);
}
