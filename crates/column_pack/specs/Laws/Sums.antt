use Rattle.std.proofs.Common.{◌≡◌, ℕ, suc, zero, ◌+◌, ◌*◌, ◌<◌, ◌≤◌, max, List, [], ◌∷◌, length, get_or, map, refl, sym, ◌∙◌, ap, arith, inl, inr}
use Rattle.std.specs.Prelude.{◌⊎◌, nat_lt}
use Rattle.std.specs.List.{All, Contains, sum}
use Rattle.std.proofs.lemmas.Bool.{lt-ltb, le-ltb, cases_lt}
use Rattle.std.proofs.lemmas.List.{get_or-map, length-map}
use Rattle.std.proofs.lemmas.List.Elements.{All-head, All-tail, All-nil, All-cons}
use Rattle.std.proofs.lemmas.List.Sums.{sum_by-cons}
use Rattle.std.proofs.Math.Nat.{mul-le-mul_left}
use Rattle.column_pack.specs.Block.{rises, falls, rises_after, falls_after}
use Rattle.column_pack.specs.Digits.{greatest_of}
use Rattle.column_pack.specs.Parts.{numbers_of}

pub sum-cons : (x : ℕ) (xs : List ℕ) → sum (x ∷ xs) ≡ x + sum xs
sum-cons x xs = sum_by-cons (λ y. y) x xs

pub sum-numbers : (o f : ℕ) (rs : List ℕ) → sum (numbers_of o f rs) ≡ o * length rs + f * sum rs
sum-numbers o f [] = omega arith
sum-numbers o f (r ∷ rs) =
    let a : sum (numbers_of o f (r ∷ rs)) ≡ (o + f * r) + sum (numbers_of o f rs) = sum-cons (o + f * r) (numbers_of o f rs) in
    let b : f * sum (r ∷ rs) ≡ f * (r + sum rs) = ap (λ z. f * z) (sum-cons r rs) in
    let ih : sum (numbers_of o f rs) ≡ o * length rs + f * sum rs = sum-numbers o f rs in
    omega arith

-- ---- the order of numbers is that of their residuals

lt-number : (o f x y : ℕ) → 0 < f → nat_lt (o + f * x) (o + f * y) ≡ nat_lt x y
lt-number o f x y p = elim (cases_lt x y) [
  | inl h ↦ let m : f * (x + 1) ≤ f * y = mul-le-mul_left f (omega arith) in lt-ltb (o + f * x) (o + f * y) (omega arith) ∙ sym (lt-ltb x y h)
  | inr h ↦ let m : f * y ≤ f * x = mul-le-mul_left f h in le-ltb (o + f * x) (o + f * y) (omega arith) ∙ sym (le-ltb x y h)
]

rises-numbers-after : (o f x : ℕ) (rs : List ℕ) → 0 < f → rises_after (o + f * x) (numbers_of o f rs) ≡ rises_after x rs
rises-numbers-after o f x [] p = refl
rises-numbers-after o f x (r ∷ rs) p = rw (lt-number o f x r p, rises-numbers-after o f r rs p) refl

falls-numbers-after : (o f x : ℕ) (rs : List ℕ) → 0 < f → falls_after (o + f * x) (numbers_of o f rs) ≡ falls_after x rs
falls-numbers-after o f x [] p = refl
falls-numbers-after o f x (r ∷ rs) p = rw (lt-number o f r x p, falls-numbers-after o f r rs p) refl

pub rises-numbers : (o f : ℕ) (rs : List ℕ) → 0 < f → rises (numbers_of o f rs) ≡ rises rs
rises-numbers o f [] p = refl
rises-numbers o f (r ∷ rs) p = rises-numbers-after o f r rs p

pub falls-numbers : (o f : ℕ) (rs : List ℕ) → 0 < f → falls (numbers_of o f rs) ≡ falls rs
falls-numbers o f [] p = refl
falls-numbers o f (r ∷ rs) p = falls-numbers-after o f r rs p

-- ---- the greatest residual has the greatest number

pub numbers-below : (o f m : ℕ) (rs : List ℕ) → o + f * greatest_of rs < m → All (λ n. n < m) (numbers_of o f rs)
numbers-below o f m [] h = All-nil (λ n. n < m)
numbers-below o f m (r ∷ rs) h =
    let a : f * r ≤ f * max r (greatest_of rs) = mul-le-mul_left f (omega arith) in
    let b : f * greatest_of rs ≤ f * max r (greatest_of rs) = mul-le-mul_left f (omega arith) in
    All-cons (λ n. n < m) (o + f * r) (numbers_of o f rs) (omega arith) (numbers-below o f m rs (omega arith))

max-either : (a b : ℕ) → (max a b ≡ a) ⊎ (max a b ≡ b)
max-either a b = elim (cases_lt a b) [ inl h ↦ inr (omega arith) | inr h ↦ inl (omega arith) ]

pub below-numbers : (o f m : ℕ) (rs : List ℕ) → 0 < length rs → All (λ n. n < m) (numbers_of o f rs) → o + f * greatest_of rs < m
below-numbers o f m [] p h = absurd (omega arith)
below-numbers o f m (r ∷ []) p h = let e : max r 0 ≡ r = omega arith in rw e (All-head (λ n. n < m) (o + f * r) [] h)
below-numbers o f m (r ∷ s ∷ rs) p h =
    let a : o + f * r < m = All-head (λ n. n < m) (o + f * r) (numbers_of o f (s ∷ rs)) h in
    let b : o + f * greatest_of (s ∷ rs) < m = below-numbers o f m (s ∷ rs) (omega arith) (All-tail (λ n. n < m) (o + f * r) (numbers_of o f (s ∷ rs)) h) in
    elim (max-either r (greatest_of (s ∷ rs))) [ inl e ↦ rw e a | inr e ↦ rw e b ]

pub greatest-le-sum : (o f : ℕ) (rs : List ℕ) → 0 < length rs → o + f * greatest_of rs ≤ sum (numbers_of o f rs)
greatest-le-sum o f [] p = absurd (omega arith)
greatest-le-sum o f (r ∷ []) p = let e : max r 0 ≡ r = omega arith in rw e (omega arith)
greatest-le-sum o f (r ∷ s ∷ rs) p =
    let a : sum (numbers_of o f (r ∷ s ∷ rs)) ≡ (o + f * r) + sum (numbers_of o f (s ∷ rs)) = sum-cons (o + f * r) (numbers_of o f (s ∷ rs)) in
    let b : o + f * greatest_of (s ∷ rs) ≤ sum (numbers_of o f (s ∷ rs)) = greatest-le-sum o f (s ∷ rs) (omega arith) in
    rw a (elim (max-either r (greatest_of (s ∷ rs))) [ inl e ↦ rw e (omega arith) | inr e ↦ rw e (omega arith) ])

pub sum-le-greatest : (f : ℕ) (rs : List ℕ) → f * sum rs ≤ length rs * (f * greatest_of rs)
sum-le-greatest f [] = omega arith
sum-le-greatest f (r ∷ rs) =
    let a : f * sum (r ∷ rs) ≡ f * (r + sum rs) = ap (λ z. f * z) (sum-cons r rs) in
    let b : f * r ≤ f * max r (greatest_of rs) = mul-le-mul_left f (omega arith) in
    let c : length rs * (f * greatest_of rs) ≤ length rs * (f * max r (greatest_of rs)) = mul-le-mul_left (length rs) (mul-le-mul_left f (omega arith)) in
    let ih : f * sum rs ≤ length rs * (f * greatest_of rs) = sum-le-greatest f rs in
    omega arith

-- ---- the least number has the residual 0

pub length-numbers : (o f : ℕ) (rs : List ℕ) → length (numbers_of o f rs) ≡ length rs
length-numbers o f rs = length-map (map (λ r. f * r) rs) (λ d. o + d) ∙ length-map rs (λ r. f * r)

pub number-at : (o f : ℕ) (rs : List ℕ) (k e : ℕ) → k < length rs → get_or (numbers_of o f rs) k e ≡ o + f * get_or rs k 0
number-at o f rs k e h =
    let l : k < length (map (λ r. f * r) rs) = omega (arith, length-map rs (λ r. f * r)) in
    get_or-map (λ d. o + d) (map (λ r. f * r) rs) k 0 e l ∙ ap (λ z. o + z) (get_or-map (λ r. f * r) rs k 0 0 h)

no-multiple : (f x : ℕ) → 0 < f → f * x ≡ 0 → x ≡ 0
no-multiple f zero p h = refl
no-multiple f (suc x) p h = let m : f * 1 ≤ f * suc x = mul-le-mul_left f (omega arith) in absurd (omega arith)

pub low-among : (o f : ℕ) (rs : List ℕ) → Contains rs 0 → Contains (numbers_of o f rs) o
low-among o f rs (k, l, e) = (k, omega (arith, length-numbers o f rs), number-at o f rs k o l ∙ ap (λ z. o + f * z) e ∙ omega arith)

pub zero-among : (o f : ℕ) (rs : List ℕ) → 0 < f → Contains (numbers_of o f rs) o → Contains rs 0
zero-among o f rs p (k, l, e) =
    let h : k < length rs = omega (arith, length-numbers o f rs) in
    let z : f * get_or rs k 0 ≡ 0 = omega (arith, number-at o f rs k o h) in
    (k, h, no-multiple f (get_or rs k 0) p z)
