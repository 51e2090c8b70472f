-- A whole number of 128 bits is a number of JSON.
use Rattle.std.proofs.Common.{◌≡◌, ℕ, ℤ, pos, negsuc, zero, suc, ◌+◌, ◌^◌, ◌<◌, ◌≤◌, ◌%◌, false, cond, ◌==◌, List, [], ◌∷◌, ◌++◌, length, drop, get_or, Some, option_and_then, decimal, refl, ap, ◌∙◌, arith, length-append, ◌/◌, FitsSigned}
use Rattle.std.specs.Fmt.{signed_decimal}
use Rattle.std.specs.Char.{is_ascii_digit}
use Rattle.std.specs.List.{prefix_len}
use Rattle.std.proofs.Math.ListN.{get_or-append}
use Rattle.std.proofs.lemmas.Bool.{ne_eqb, le-leb, and_from}
use Rattle.std.proofs.lemmas.Fmt.{decimal_is_IsNumeral_wide, decimal_by_steps_wide, decimal_digit}
use Rattle.std.proofs.lemmas.List.{drop_all}
use Rattle.std.proofs.lemmas.Str.Parse.{digit_at}
use Rattle.json.specs.Print.{IsNumber}
use Rattle.json.specs.Word.{head, after_whole, after_fraction, after_exponent, after_number}
use Rattle.std.specs.Int.{w128}
use Rattle.std.specs.Int.Signed.{mag}

-- digits, of which the first is none of zero
record AreDigits (ds : List ℕ) : Type 0 where
  pub first : 48 < get_or ds 0 0
  pub each : (i : ℕ) → i < length ds → (48 ≤ get_or ds i 0) × (get_or ds i 0 ≤ 57)

all_pass : (ds : List ℕ) → ((i : ℕ) → i < length ds → (48 ≤ get_or ds i 0) × (get_or ds i 0 ≤ 57)) → prefix_len is_ascii_digit ds ≡ length ds
all_pass [] each = refl
all_pass (d ∷ ds) each =
    let here = each 0 (omega arith) in
    let later = all_pass ds (λ i below. each (suc i) (omega arith)) in
    ap (λ b. cond b (1 + prefix_len is_ascii_digit ds) 0) (and_from _ _ (le-leb 48 d here.0) (le-leb d 57 here.1)) ∙ omega arith

whole : (ds : List ℕ) → AreDigits ds → (after_whole ds ≡ Some []) × ((head ds == 45) ≡ false)
whole [] are = absurd (omega (arith, are.first))
whole (d ∷ ds) are =
    let first = are.first in
    let other : (d == 48) ≡ false = ne_eqb d 48 (λ e. omega arith) in
    let some : (suc (length ds) == 0) ≡ false = ne_eqb (suc (length ds)) 0 (λ e. omega arith) in
    (rw (other, all_pass (d ∷ ds) are.each, some) (ap Some (drop_all (length ds) ds (omega arith))), ne_eqb d 45 (λ e. omega arith))

-- a decimal that isn't 0 begins with another digit
abbrev Begins : ℕ → List ℕ → Type 0
Begins n ds = (0 < length ds) × (0 < n → 48 < get_or ds 0 0)

begins : (n : ℕ) → n < 10 ^ 64 → Begins n (decimal n)
begins = decimal_by_steps_wide Begins (λ n small. (omega arith, λ some. omega arith)) longer
  where
    longer : (n : ℕ) (ds : List ℕ) → 10 ≤ n → Begins (n / 10) ds → Begins n (ds ++ ((48 + n % 10) ∷ []))
    longer n ds large is =
        let first = is.1 (omega arith) in
        let some = is.0 in
        (omega (arith, length-append ds ((48 + n % 10) ∷ [])), λ _. omega (arith, get_or-append ds ((48 + n % 10) ∷ []) 0 0 some))

digits_of : (n : ℕ) → 0 < n → n < 10 ^ 64 → AreDigits (decimal n)
digits_of n some small = record { first = (begins n small).1 some; each = λ i below. digit_at (decimal n) i (decimal_is_IsNumeral_wide n small).0.1 below }

natural_whole : (n : ℕ) → n < 10 ^ 64 → (after_whole (decimal n) ≡ Some []) × ((head (decimal n) == 45) ≡ false)
natural_whole zero small = let e = decimal_digit 0 (omega arith) in (ap after_whole e, ap (λ ds. head ds == 45) e)
natural_whole (suc n) small = whole (decimal (suc n)) (digits_of (suc n) (omega arith) small)

natural_number : (n : ℕ) → n < 10 ^ 64 → IsNumber (decimal n)
unfolding after_number
natural_number n small =
    let is = natural_whole n small in
    ap (λ o. option_and_then after_exponent (option_and_then after_fraction o)) (ap (λ b. after_whole (cond b (drop 1 (decimal n)) (decimal n))) is.1 ∙ is.0)

behind_minus : (n : ℕ) → n < 10 ^ 64 → IsNumber (45 ∷ decimal n)
unfolding after_number
behind_minus n small = ap (λ o. option_and_then after_exponent (option_and_then after_fraction o)) (natural_whole n small).0

wide_number : (z : ℤ) → mag z + 1 < 10 ^ 64 → IsNumber (signed_decimal z)
wide_number (pos n) small = natural_number n (omega arith)
wide_number (negsuc n) small = behind_minus (suc n) (omega arith)

small_in_memory : (z : ℤ) → FitsSigned w128 z → mag z + 1 < 10 ^ 64
small_in_memory z fits = omega (arith, fits.sfits)

pub number_in_memory : (z : ℤ) → FitsSigned w128 z → IsNumber (signed_decimal z)
number_in_memory z fits = wide_number z (small_in_memory z fits)
