-- A backing index's name read piece by piece.
use Rattle.std.proofs.Common.{◌≡◌, ℕ, ◌*◌, ◌/◌, ◌%◌, ◌<◌, ◌≤◌, true, false, Bool, ◌&&◌, List, [], ◌∷◌, ◌++◌, length, get_or, refl, sym, ap, ◌∙◌, arith, ℤ, pos, negsuc, unsigned_abs, length-append}
use Rattle.std.specs.Prelude.{codes, IsTrue, bytes_eq}
use Rattle.std.specs.List.{list_all}
use Rattle.std.specs.Str.{IsAscii}
use Rattle.std.proofs.lemmas.Bool.Decides.{nat_tests}
use Rattle.std.proofs.lemmas.Int.{ints}
use Rattle.std.proofs.lemmas.Slice.Eq.{bytes_eq-Decides}
use Rattle.std.proofs.lemmas.Str.Ascii.{IsAscii-cons, IsAscii-nil}
use Rattle.time_text.specs.Instant.{IsInstant}
use Rattle.time_text.specs.Printed.{day_text, date_text, clock_text, instant_text}
use Rattle.index_names.specs.Backing.{six_digits, behind_stream, backing_name, IsBackingOf}
use Rattle.index_names.specs.BackingLaws.{same_parts, ten_long, behind_long}
use Rattle.index_names.specs.Names.{is_letter_or_digit, is_name_byte, are_name_bytes, is_stream_name}
use Rattle.index_names.specs.Reading.{IsBackingName, IsCutOf, IsFramed, midnight}
use Rattle.index_names.specs.declared.reading.Cut.{Cut}

-- ---- a stream's name is a text

byte_small : (b : ℕ) → is_name_byte b ≡ true → b < 128
byte_small b is = grind (arith, nat_tests)

both_true : (a b : Bool) → (a && b) ≡ true → (a ≡ true) × (b ≡ true)
both_true true true is = (refl, refl)
both_true true false is = absurd cc
both_true false b is = absurd cc

all_ascii : (s : List ℕ) → list_all is_name_byte s ≡ true → IsAscii s
all_ascii [] is = IsAscii-nil
all_ascii (b ∷ s) is = let parts = both_true (is_name_byte b) (list_all is_name_byte s) is in IsAscii-cons b s (byte_small b parts.0) (all_ascii s parts.1)

first_small : (b : ℕ) → is_letter_or_digit b ≡ true → b < 128
first_small b is = grind (arith, nat_tests)

pub stream_ascii : (s : List ℕ) → IsTrue (is_stream_name s) → IsAscii s
unfolding is_stream_name are_name_bytes
stream_ascii [] is = IsAscii-nil
stream_ascii (b ∷ s) is =
    let plain = both_true _ _ is in
    let parts = both_true _ _ plain.1 in IsAscii-cons b s (first_small b parts.0) (all_ascii s parts.1)

-- ---- a day

same_day : (n : ℕ) → n / 86_400_000 * 86_400_000 / 86_400_000 ≡ n / 86_400_000
same_day n = omega arith

at_its_start : (n : ℕ) → n / 86_400_000 * 86_400_000 % 86_400_000 ≡ 0
at_its_start n = omega arith

pub midnight_is : (t : ℤ) → midnight (midnight t) ≡ midnight t
midnight_is t = ap (λ d. pos (d * 86_400_000)) (same_day (unsigned_abs t))

pub day_at_midnight : (t : ℤ) → day_text (midnight t) ≡ day_text t
unfolding day_text
day_at_midnight t = rw (same_day (unsigned_abs t)) refl

pub midnight_in_range : (t : ℤ) → IsInstant t → IsInstant (midnight t)
midnight_in_range (pos n) is = omega (arith, ints, is)
midnight_in_range (negsuc n) is = absurd (omega (arith, ints, is))

-- a day's text with hyphens, and the clock at midnight
abbrev pub written : List ℕ → List ℕ
written s =
    get_or s 0 0 ∷ get_or s 1 0 ∷ get_or s 2 0 ∷ get_or s 3 0 ∷ 45 ∷ get_or s 5 0 ∷ get_or s 6 0 ∷ 45 ∷ get_or s 8 0 ∷ get_or s 9 0 ∷ codes "T00:00:00.000Z"

pub written_is : (t : ℤ) → written (day_text t) ≡ instant_text (midnight t)
unfolding day_text instant_text date_text clock_text
written_is t = rw (same_day (unsigned_abs t), at_its_start (unsigned_abs t)) refl

-- ---- the pieces of a name

-- what the pieces are where the name is that of a stream, a moment and a generation
pub record AreParts (c : Cut) (s : List ℕ) (t : ℤ) (g : ℕ) : Type 0 where
  pub framed : IsFramed c
  pub stream : c.stream.now ≡ s
  pub day : day_text t ≡ c.day.now
  pub generation : six_digits g ≡ c.generation.now

front_parts : (xs ys us vs : List ℕ) → length xs ≡ length ys → xs ++ us ≡ ys ++ vs → (xs ≡ ys) × (us ≡ vs)
front_parts xs ys us vs long same =
    same_parts xs ys us vs (omega (arith, ap length same, length-append xs us, length-append ys vs, long)) same

pub parts_of : (c : Cut) (name s : List ℕ) (t : ℤ) (g : ℕ) → IsCutOf c name → IsBackingOf name s t g → AreParts c s t g
unfolding backing_name day_text
parts_of c name s t g cut is =
    let all = sym cut.joined ∙ is.printed in
    let marks = front_parts c.mark.now (codes ".ds-") _ _ cut.mark_long all in
    let streams = same_parts c.stream.now s (c.first_hyphen.now ++ (c.day.now ++ (c.second_hyphen.now ++ c.generation.now))) (behind_stream t g) (tail_long ∙ sym (behind_long t g)) marks.1 in
    let firsts = front_parts c.first_hyphen.now (codes "-") (c.day.now ++ (c.second_hyphen.now ++ c.generation.now)) (day_text t ++ (codes "-" ++ six_digits g)) cut.first_long streams.1 in
    let days = front_parts c.day.now (day_text t) (c.second_hyphen.now ++ c.generation.now) (codes "-" ++ six_digits g) (cut.day_long ∙ sym (ten_long t)) firsts.1 in
    let seconds = front_parts c.second_hyphen.now (codes "-") c.generation.now (six_digits g) cut.second_long days.1 in
    record { framed = record { mark = marks.0; first = firsts.0; second = seconds.0 }; stream = streams.0; day = sym days.0; generation = sym seconds.1 }
  where
    tail_long : length (c.first_hyphen.now ++ (c.day.now ++ (c.second_hyphen.now ++ c.generation.now))) ≡ 18
    tail_long = omega (arith, length-append c.first_hyphen.now (c.day.now ++ (c.second_hyphen.now ++ c.generation.now)), length-append c.day.now (c.second_hyphen.now ++ c.generation.now), length-append c.second_hyphen.now c.generation.now, cut.first_long, cut.day_long, cut.second_long, cut.generation_long)

pub long_enough : (name : List ℕ) → IsBackingName name → 22 ≤ length name
unfolding backing_name
long_enough name is =
    let s = is.0 in let t = is.1 in let g = is.2 in
    let long : length name ≡ length (codes ".ds-" ++ (s ++ behind_stream t g)) = ap length is.3.printed in
    omega (arith, long, length-append s (behind_stream t g), behind_long t g)

-- the pieces joined again
pub joined_is : (c : Cut) (name : List ℕ) (t : ℤ) (g : ℕ) → IsCutOf c name → IsFramed c → day_text t ≡ c.day.now → six_digits g ≡ c.generation.now → name ≡ backing_name c.stream.now t g
unfolding backing_name day_text
joined_is c name t g cut framed day generation = cut.joined ∙ rw (framed.mark, framed.first, framed.second, ← day, ← generation) refl

pub not_unequal : (a b : List ℕ) → false ≡ bytes_eq a b → a ≡ b → ⊥
not_unequal a b differ same = let equal = (bytes_eq-Decides a b).1 same in absurd (cc (differ, equal))
