-- Words of eight bytes, the highest first, compare as their bytes do.
use Rattle.std.specs.Prelude.{◌≡◌, ℕ, zero, suc, ◌+◌, ◌*◌, ◌<◌, List, [], ◌∷◌, ◌++◌, length}
use Rattle.std.specs.Int.{w64, from_be_bytes}
use Rattle.std.specs.Ordering.{nat_cmp, ordering_then, MatchOrdering}
use Rattle.std.specs.Cmp.{nat_cmp_is}
use Rattle.std.specs.Cmp.Lexicographic.{slice_cmp}
use Rattle.std.specs.declared.cmp.Ordering.{Ordering}
use Rattle.std.specs.declared.cmp.Ordering.TheVariants.{Less, Equal, Greater}
use Rattle.std.proofs.Common.{refl, ap, sym, ◌∙◌, arith, get_or, take, drop}
use Rattle.std.proofs.lemmas.Cmp.{ranked}
use Rattle.std.proofs.lemmas.List.{take-append-drop, length-take}

then_assoc : (a b c : Ordering) → ordering_then (ordering_then a b) c ≡ ordering_then a (ordering_then b c)
then_assoc Less b c = refl
then_assoc Equal b c = refl
then_assoc Greater b c = refl

-- one digit more
digit_order : (a b x y : ℕ) → x < 256 → y < 256 → nat_cmp (a * 256 + x) (b * 256 + y) ≡ ordering_then (nat_cmp a b) (nat_cmp x y)
digit_order a b x y p q = sym (nat_cmp_is (a * 256 + x) (b * 256 + y) (ordering_then (nat_cmp a b) (nat_cmp x y)) (go (nat_cmp a b) (nat_cmp x y) (ranked a b (nat_cmp a b) refl) (ranked x y (nat_cmp x y) refl)))
  where
    go : (r s : Ordering) → MatchOrdering r (a < b) (a ≡ b) (b < a) → MatchOrdering s (x < y) (x ≡ y) (y < x) → MatchOrdering (ordering_then r s) (a * 256 + x < b * 256 + y) (a * 256 + x ≡ b * 256 + y) (b * 256 + y < a * 256 + x)
    go Less s h k = omega (arith, h, p, q)
    go Greater s h k = omega (arith, h, p, q)
    go Equal Less h k = omega (arith, h, k)
    go Equal Equal h k = omega (arith, h, k)
    go Equal Greater h k = omega (arith, h, k)

abbrev AreSmall : List ℕ → Type 0
AreSmall xs = (i : ℕ) → get_or xs i 0 < 256

small_take : (n : ℕ) (xs : List ℕ) → AreSmall xs → AreSmall (take n xs)
small_take zero xs small i = omega arith
small_take (suc n) [] small i = omega arith
small_take (suc n) (x ∷ xs) small zero = small 0
small_take (suc n) (x ∷ xs) small (suc i) = small_take n xs (λ k. small (suc k)) i

-- the number that digits go on to spell
abbrev onward : ℕ → List ℕ → ℕ
onward n [] = n
onward n (x ∷ xs) = onward (n * 256 + x) xs

onward_order : (a b : ℕ) (xs ys : List ℕ) → length xs ≡ length ys → AreSmall xs → AreSmall ys → nat_cmp (onward a xs) (onward b ys) ≡ ordering_then (nat_cmp a b) (slice_cmp nat_cmp xs ys)
onward_order a b [] [] long small_x small_y = right (nat_cmp a b)
  where
    right : (r : Ordering) → r ≡ ordering_then r Equal
    right Less = refl
    right Equal = refl
    right Greater = refl
onward_order a b [] (y ∷ ys) long small_x small_y = absurd (omega (arith, long))
onward_order a b (x ∷ xs) [] long small_x small_y = absurd (omega (arith, long))
onward_order a b (x ∷ xs) (y ∷ ys) long small_x small_y =
    onward_order (a * 256 + x) (b * 256 + y) xs ys (omega (arith, long)) (λ i. small_x (suc i)) (λ i. small_y (suc i))
    ∙ (ap (λ o. ordering_then o (slice_cmp nat_cmp xs ys)) (digit_order a b x y (small_x 0) (small_y 0))
    ∙ then_assoc (nat_cmp a b) (nat_cmp x y) (slice_cmp nat_cmp xs ys))

front_order : (xs ys r s : List ℕ) → length xs ≡ length ys → slice_cmp nat_cmp (xs ++ r) (ys ++ s) ≡ ordering_then (slice_cmp nat_cmp xs ys) (slice_cmp nat_cmp r s)
front_order [] [] r s long = refl
front_order [] (y ∷ ys) r s long = absurd (omega (arith, long))
front_order (x ∷ xs) [] r s long = absurd (omega (arith, long))
front_order (x ∷ xs) (y ∷ ys) r s long = ap (ordering_then (nat_cmp x y)) (front_order xs ys r s (omega (arith, long))) ∙ sym (then_assoc (nat_cmp x y) (slice_cmp nat_cmp xs ys) (slice_cmp nat_cmp r s))

eight_onward : (xs : List ℕ) → length xs ≡ 8 → from_be_bytes w64 xs ≡ onward 0 xs
eight_onward [] l = absurd (omega (arith, l))
eight_onward (a ∷ []) l = absurd (omega (arith, l))
eight_onward (a ∷ b ∷ []) l = absurd (omega (arith, l))
eight_onward (a ∷ b ∷ c ∷ []) l = absurd (omega (arith, l))
eight_onward (a ∷ b ∷ c ∷ d ∷ []) l = absurd (omega (arith, l))
eight_onward (a ∷ b ∷ c ∷ d ∷ e ∷ []) l = absurd (omega (arith, l))
eight_onward (a ∷ b ∷ c ∷ d ∷ e ∷ f ∷ []) l = absurd (omega (arith, l))
eight_onward (a ∷ b ∷ c ∷ d ∷ e ∷ f ∷ g ∷ []) l = absurd (omega (arith, l))
eight_onward (a ∷ b ∷ c ∷ d ∷ e ∷ f ∷ g ∷ h ∷ []) l = omega arith
eight_onward (a ∷ b ∷ c ∷ d ∷ e ∷ f ∷ g ∷ h ∷ m ∷ more) l = absurd (omega (arith, l))

-- two texts by their first words and what follows
pub word_order : (xs ys x y r s : List ℕ) → AreSmall xs → AreSmall ys → x ≡ take 8 xs → r ≡ drop 8 xs → length r + 8 ≡ length xs → y ≡ take 8 ys → s ≡ drop 8 ys → length s + 8 ≡ length ys → slice_cmp nat_cmp xs ys ≡ ordering_then (nat_cmp (from_be_bytes w64 x) (from_be_bytes w64 y)) (slice_cmp nat_cmp r s)
word_order xs ys x y r s small_x small_y x_is r_is long_x y_is s_is long_y =
    let eight_x : length x ≡ 8 = omega (arith, ap length x_is, length-take 8 xs, long_x) in
    let eight_y : length y ≡ 8 = omega (arith, ap length y_is, length-take 8 ys, long_y) in
    let sx : AreSmall x = rw x_is (small_take 8 xs small_x) in
    let sy : AreSmall y = rw y_is (small_take 8 ys small_y) in
    let joined_x : xs ≡ x ++ r = sym (rw (x_is, r_is) (take-append-drop 8 xs)) in
    let joined_y : ys ≡ y ++ s = sym (rw (y_is, s_is) (take-append-drop 8 ys)) in
    let long : length x ≡ length y = eight_x ∙ sym eight_y in
    let words : nat_cmp (from_be_bytes w64 x) (from_be_bytes w64 y) ≡ slice_cmp nat_cmp x y = ap (λ n. nat_cmp n (from_be_bytes w64 y)) (eight_onward x eight_x) ∙ (ap (λ n. nat_cmp (onward 0 x) n) (eight_onward y eight_y) ∙ onward_order 0 0 x y long sx sy) in
    ap (λ t. slice_cmp nat_cmp t ys) joined_x ∙ (ap (λ t. slice_cmp nat_cmp (x ++ r) t) joined_y ∙ (front_order x y r s long ∙ ap (λ o. ordering_then o (slice_cmp nat_cmp r s)) (sym words)))
