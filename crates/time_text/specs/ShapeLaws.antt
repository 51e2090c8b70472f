-- Shapes, and the digits that they show.
use Rattle.std.proofs.Common.{◌≡◌, ◌==◌, not, zero, suc, slice_range, ◌≢◌, ℕ, ◌+◌, ◌-◌, ◌*◌, ◌^◌, ◌<◌, ◌≤◌, Bool, true, false, ◌&&◌, cond, List, [], ◌∷◌, length, take, drop, get_or, refl, arith}
use Rattle.std.specs.Char.{is_ascii_digit}
use Rattle.std.specs.Int.{IsInRange}
use Rattle.std.specs.List.{prefix_len}
use Rattle.std.specs.Str.{all_ascii_digits}
use Rattle.std.specs.Str.Parse.{digits_value}
use Rattle.std.proofs.lemmas.Bool.Decides.{nat_tests}
use Rattle.std.proofs.lemmas.Str.{digit_value_digit}
use Rattle.std.proofs.lemmas.Str.Parse.{IsNumeralModel, numerals_by_value, tells_all_ascii_digits, digits_value_short, digit_at, digits_value-take-le}
use Rattle.std.proofs.lemmas.Int.Digits.{digits_value_more}
use Rattle.time_text.specs.Shape.{has_shape, fits}

-- `all_ascii_digits` and `digits_value 10` are std's words for digits and their value
pub own : IsNumeralModel (λ ds. all_ascii_digits ds ≡ true) (digits_value 10)
own = numerals_by_value _ tells_all_ascii_digits

pub first_true : (p q : Bool) → (p && q) ≡ true → p ≡ true
first_true true q h = refl
first_true false q h = h

pub second_true : (p q : Bool) → (p && q) ≡ true → q ≡ true
second_true true q h = h
second_true false q h = cc

pub both_true : (p q : Bool) → p ≡ true → q ≡ true → (p && q) ≡ true
both_true p q a b = rw (a, b) refl

-- a text of another length has another shape
pub has_shape-length : (shape text : List ℕ) → length shape ≢ length text → has_shape shape text ≡ false
has_shape-length [] [] h = absurd (h refl)
has_shape-length [] (b ∷ text) h = refl
has_shape-length (c ∷ shape) [] h = refl
has_shape-length (c ∷ shape) (b ∷ text) h =
    let rest : has_shape shape text ≡ false = has_shape-length shape text (λ e. h (omega (arith, e))) in
    rw rest (and_false (fits c b))
  where
    and_false : (p : Bool) → (p && false) ≡ false
    and_false true = refl
    and_false false = refl

-- each byte of a text of digits is one
pub digit_in : (ds : List ℕ) (i : ℕ) → all_ascii_digits ds ≡ true → i < length ds → IsInRange 48 57 (get_or ds i 0)
digit_in ds i h lt = digit_at ds i (own.to ds h) lt

-- one digit more
pub number_more : (ds : List ℕ) (i : ℕ) → all_ascii_digits ds ≡ true → i < length ds → digits_value 10 (take (i + 1) ds) ≡ digits_value 10 (take i ds) * 10 + (get_or ds i 0 - 48)
number_more ds i h lt =
    let d = digit_in ds i h lt in
    let v = digit_value_digit (get_or ds i 0) d in
    let m = digits_value_more 10 ds i lt in
    omega (arith, d, v, m)

-- the number so far stays small
pub number_fits : (ds : List ℕ) (i : ℕ) → all_ascii_digits ds ≡ true → length ds ≤ 15 → i < length ds → digits_value 10 (take i ds) * 10 + (get_or ds i 0 - 48) < 10 ^ 15
number_fits ds i h few lt =
    omega (arith, number_more ds i h lt, digits_value-take-le 10 ds (i + 1) (omega arith), digits_value_short own ds 15 h few)

-- a text of a shape, from a place on and up to a place
has_shape-drop : (shape text : List ℕ) (i : ℕ) → has_shape shape text ≡ true → has_shape (drop i shape) (drop i text) ≡ true
has_shape-drop shape text zero h = h
has_shape-drop [] [] (suc i) h = refl
has_shape-drop [] (b ∷ text) (suc i) h = cc
has_shape-drop (c ∷ shape) [] (suc i) h = cc
has_shape-drop (c ∷ shape) (b ∷ text) (suc i) h = has_shape-drop shape text i (second_true (fits c b) (has_shape shape text) h)

has_shape-take : (shape text : List ℕ) (i : ℕ) → has_shape shape text ≡ true → has_shape (take i shape) (take i text) ≡ true
has_shape-take shape text zero h = refl
has_shape-take [] [] (suc i) h = refl
has_shape-take [] (b ∷ text) (suc i) h = cc
has_shape-take (c ∷ shape) [] (suc i) h = cc
has_shape-take (c ∷ shape) (b ∷ text) (suc i) h =
    both_true (fits c b) (has_shape (take i shape) (take i text)) (first_true (fits c b) (has_shape shape text) h)
    (has_shape-take shape text i (second_true (fits c b) (has_shape shape text) h))

-- a list of nothing but the sign for a digit
abbrev pub all_marks : List ℕ → Bool
all_marks [] = true
all_marks (c ∷ shape) = (c == 35) && all_marks shape

digits_from_marks : (shape text : List ℕ) → has_shape shape text ≡ true → all_marks shape ≡ true → all_ascii_digits text ≡ true
digits_from_marks [] [] h m = refl
digits_from_marks [] (b ∷ text) h m = cc
digits_from_marks (c ∷ shape) [] h m = cc
digits_from_marks (c ∷ shape) (b ∷ text) h m =
    let mark = first_true (c == 35) (all_marks shape) m in
    let shown = first_true (fits c b) (has_shape shape text) h in
    both_true (is_ascii_digit b) (all_ascii_digits text)
    (rw mark at shown)
    (digits_from_marks shape text (second_true (fits c b) (has_shape shape text) h) (second_true (c == 35) (all_marks shape) m))

-- where the shape has signs for digits, the text has digits
pub digits_shown : (shape text : List ℕ) (i j : ℕ) → has_shape shape text ≡ true → all_marks (slice_range shape i j) ≡ true → all_ascii_digits (slice_range text i j) ≡ true
digits_shown shape text i j h m =
    digits_from_marks (slice_range shape i j) (slice_range text i j) (has_shape-take (drop i shape) (drop i text) (j - i) (has_shape-drop shape text i h)) m

-- a text of a shape is as long as it
pub length_shown : (shape text : List ℕ) → has_shape shape text ≡ true → length text ≡ length shape
length_shown [] [] h = refl
length_shown [] (b ∷ text) h = cc
length_shown (c ∷ shape) [] h = cc
length_shown (c ∷ shape) (b ∷ text) h = omega (arith, length_shown shape text (second_true (fits c b) (has_shape shape text) h))

-- what a text begins with up to the first byte that is no digit are digits
pub digits_in_front : (text : List ℕ) → all_ascii_digits (take (prefix_len is_ascii_digit text) text) ≡ true
digits_in_front [] = refl
digits_in_front (b ∷ text) = at_byte (is_ascii_digit b) refl (digits_in_front text)
  where
    at_byte : (v : Bool) → is_ascii_digit b ≡ v → all_ascii_digits (take (prefix_len is_ascii_digit text) text) ≡ true → all_ascii_digits (take (cond v (1 + prefix_len is_ascii_digit text) 0) (b ∷ text)) ≡ true
    at_byte true here rest =
        let one : 1 + prefix_len is_ascii_digit text ≡ suc (prefix_len is_ascii_digit text) = omega arith in
        rw one (both_true (is_ascii_digit b) (all_ascii_digits (take (prefix_len is_ascii_digit text) text)) here rest)
    at_byte false here rest = refl

-- a shape without signs for digits is itself the one text that it has
abbrev pub no_marks : List ℕ → Bool
no_marks [] = true
no_marks (c ∷ shape) = not (c == 35) && no_marks shape

pub exact_shape : (shape text : List ℕ) → has_shape shape text ≡ true → no_marks shape ≡ true → text ≡ shape
exact_shape [] [] h m = refl
exact_shape [] (b ∷ text) h m = cc
exact_shape (c ∷ shape) [] h m = cc
exact_shape (c ∷ shape) (b ∷ text) h m =
    let here = exact_sign c b (first_true (not (c == 35)) (no_marks shape) m) (first_true (fits c b) (has_shape shape text) h) in
    let more = exact_shape shape text (second_true (fits c b) (has_shape shape text) h) (second_true (not (c == 35)) (no_marks shape) m) in
    rw (here, more) refl
  where
    exact_sign : (c b : ℕ) → not (c == 35) ≡ true → fits c b ≡ true → b ≡ c
    exact_sign c b m h = grind (arith, nat_tests)
