-- What is printed of an instant, and that it is read again.
use Rattle.std.proofs.Common.{◌≡◌, ℕ, ◌+◌, ◌*◌, ◌/◌, ◌%◌, ◌<◌, ◌≤◌, true, false, List, [], ◌∷◌, ◌++◌, length, take, drop, get_or, Some, refl, ap, arith, ℤ, pos, negsuc, unsigned_abs}
use Rattle.std.specs.Prelude.{codes, slice_index}
use Rattle.std.specs.Char.{is_ascii_digit, digit_value}
use Rattle.std.specs.Str.{IsAscii, all_ascii_digits}
use Rattle.std.specs.Str.Parse.{digits_value}
use Rattle.std.proofs.lemmas.Bool.{le-leb}
use Rattle.std.proofs.lemmas.Bool.Decides.{nat_tests}
use Rattle.std.proofs.lemmas.Int.{ints}
use Rattle.std.proofs.lemmas.Str.{digit_value_digit, IsAscii-append}
use Rattle.std.proofs.lemmas.Str.Ascii.{IsAscii-cons, IsAscii-nil}
use Rattle.std.proofs.lemmas.List.Recursion.{and_fails_at}
use Rattle.jiff_core.specs.Calendar.{days_in_month}
use Rattle.jiff_core.proofs.CalendarLemmas.{days_in_month_bounds}
use Rattle.time_text.specs.Shape.{has_shape, number}
use Rattle.time_text.specs.Day.{day_number, year_of, month_of, day_of_month}
use Rattle.edge_face.specs.Limits.{last_instant}
use Rattle.time_text.specs.Instant.{IsInstant, day_of, clock, clock_of, exact_clock_of, is_fraction, thousandths, offset_of, begins_offset, offset_place, date_time_of, written_of, instant_of}
use Rattle.time_text.specs.Laws.{PrintedReadsBack, PrintedDatesAreCivil}
use Rattle.time_text.specs.Printed.{two_digits, three_digits, four_digits, date_text, clock_text, instant_text}
use Rattle.time_text.specs.DayLaws.{civil_of_day, IsCivilOf}
use Rattle.time_text.specs.ShapeLaws.{has_shape-length, both_true}

-- a printed digit is a digit, with its value
digit_test : (d : ℕ) → d < 10 → is_ascii_digit (48 + d) ≡ true
digit_test d h = both_true _ _ (le-leb 48 (48 + d) (omega arith)) (le-leb (48 + d) 57 (omega arith))

shown_value : (d : ℕ) → d < 10 → digit_value (48 + d) ≡ d
shown_value d h = omega (arith, digit_value_digit (48 + d) (omega arith, omega arith))

no_offset : (d : ℕ) → d < 10 → begins_offset (48 + d) ≡ false
no_offset d h = grind (arith, nat_tests)

two_value : (n : ℕ) → n < 100 → digits_value 10 (two_digits n) ≡ n
two_value n h = rw (shown_value (n / 10) (omega arith), shown_value (n % 10) (omega arith)) (omega arith)

three_value : (n : ℕ) → n < 1_000 → digits_value 10 (three_digits n) ≡ n
three_value n h = rw (shown_value (n / 100) (omega arith), shown_value (n % 100 / 10) (omega arith), shown_value (n % 100 % 10) (omega arith)) (omega arith)

four_value : (n : ℕ) → n < 10_000 → digits_value 10 (four_digits n) ≡ n
four_value n h = rw (shown_value (n / 100 / 10) (omega arith), shown_value (n / 100 % 10) (omega arith), shown_value (n % 100 / 10) (omega arith), shown_value (n % 100 % 10) (omega arith)) (omega arith)

-- the parts of a date fit their digits
record IsShort (y m d : ℕ) : Type 0 where
  year : y < 10_000
  month : m < 100
  day_in_month : d < 100

short : (day : ℕ) → day ≤ 2_932_896 → IsShort (year_of day) (month_of day) (day_of_month day)
short day small =
    let civil = civil_of_day day small in
    let most = days_in_month_bounds (pos (year_of day)) (month_of day) in
    record { year = civil.to; month = omega arith; day_in_month = omega arith }

-- a date as it is printed, and its parts
date_shape : (day : ℕ) → day ≤ 2_932_896 → has_shape (codes "####-##-##") (date_text day) ≡ true
unfolding date_text
date_shape day small =
    let parts = short day small in
    let y = year_of day in
    let m = month_of day in
    let d = day_of_month day in
    rw (digit_test (y / 100 / 10) (omega arith), digit_test (y / 100 % 10) (omega arith), digit_test (y % 100 / 10) (omega arith), digit_test (y % 100 % 10) (omega arith), digit_test (m / 10) (omega arith), digit_test (m % 10) (omega arith), digit_test (d / 10) (omega arith), digit_test (d % 10) (omega arith)) refl

date_year : (day : ℕ) → day ≤ 2_932_896 → number (date_text day) 0 4 ≡ year_of day
unfolding date_text
date_year day small = four_value (year_of day) (short day small).year

date_month : (day : ℕ) → day ≤ 2_932_896 → number (date_text day) 5 7 ≡ month_of day
unfolding date_text
date_month day small = two_value (month_of day) (short day small).month

date_day : (day : ℕ) → day ≤ 2_932_896 → number (date_text day) 8 10 ≡ day_of_month day
unfolding date_text
date_day day small = two_value (day_of_month day) (short day small).day_in_month

civil_number : (day y m d : ℕ) → IsCivilOf day y m d → day_number y m d ≡ Some (pos day)
unfolding day_number
civil_number day y m d civil =
    rw (le-leb 1 m civil.month_in.0, le-leb m 12 civil.month_in.1, le-leb 1 d civil.day_in.0, le-leb d (days_in_month (pos y) m) civil.day_in.1)
    (ap Some civil.number)

pub dates_are_civil : PrintedDatesAreCivil
dates_are_civil day small =
    civil_number day (year_of day) (month_of day) (day_of_month day) (civil_of_day day small)

date_reads : (day : ℕ) → day ≤ 2_932_896 → day_of (date_text day) ≡ Some (pos day)
unfolding day_of
date_reads day small =
    rw (date_shape day small, date_year day small, date_month day small, date_day day small)
    (civil_number day (year_of day) (month_of day) (day_of_month day) (civil_of_day day small))

-- a clock as it is printed, and its parts
clock_shape : (n : ℕ) → n < 86_400_000 → has_shape (codes "##:##:##.") (take 9 (clock_text n)) ≡ true
unfolding clock_text
clock_shape n small =
    let h = n / 3_600_000 in
    let m = n / 60_000 % 60 in
    let s = n / 1_000 % 60 in
    rw (digit_test (h / 10) (omega arith), digit_test (h % 10) (omega arith), digit_test (m / 10) (omega arith), digit_test (m % 10) (omega arith), digit_test (s / 10) (omega arith), digit_test (s % 10) (omega arith)) refl

clock_fraction : (n : ℕ) → is_fraction (drop 9 (clock_text n)) ≡ true
unfolding clock_text
clock_fraction n =
    let f = n % 1_000 in
    rw (digit_test (f / 100) (omega arith), digit_test (f % 100 / 10) (omega arith), digit_test (f % 100 % 10) (omega arith)) refl

clock_hours : (n : ℕ) → n < 86_400_000 → number (take 9 (clock_text n)) 0 2 ≡ n / 3_600_000
unfolding clock_text
clock_hours n small = two_value (n / 3_600_000) (omega arith)

clock_minutes : (n : ℕ) → number (take 9 (clock_text n)) 3 5 ≡ n / 60_000 % 60
unfolding clock_text
clock_minutes n = two_value (n / 60_000 % 60) (omega arith)

clock_seconds : (n : ℕ) → number (take 9 (clock_text n)) 6 8 ≡ n / 1_000 % 60
unfolding clock_text
clock_seconds n = two_value (n / 1_000 % 60) (omega arith)

clock_millis : (n : ℕ) → thousandths (drop 9 (clock_text n)) ≡ n % 1_000
unfolding clock_text thousandths
clock_millis n =
    let value = three_value (n % 1_000) (omega arith) in
    omega (arith, value)

clock_sum : (n : ℕ) → n < 86_400_000 → clock (n / 3_600_000) (n / 60_000 % 60) (n / 1_000 % 60) (n % 1_000) ≡ Some n
clock_sum n small =
    let whole : ((n / 3_600_000 * 60 + n / 60_000 % 60) * 60 + n / 1_000 % 60) * 1_000 + n % 1_000 ≡ n = omega arith in
    rw (le-leb (n / 3_600_000) 23 (omega arith), le-leb (n / 60_000 % 60) 59 (omega arith), le-leb (n / 1_000 % 60) 59 (omega arith))
    (ap Some whole)

length_clock : (n : ℕ) → length (clock_text n) ≡ 12
unfolding clock_text
length_clock n = refl

clock_reads : (n : ℕ) → n < 86_400_000 → clock_of (clock_text n) ≡ Some n
unfolding clock_of exact_clock_of
clock_reads n small =
    let long = length_clock n in
    rw (
      has_shape-length (codes "##:##") (clock_text n) (λ e. omega arith),
      has_shape-length (codes "##:##:##") (clock_text n) (λ e. omega arith),
      clock_shape n small,
      clock_fraction n,
      clock_hours n small,
      clock_minutes n,
      clock_seconds n,
      clock_millis n,
    )
    (clock_sum n small)

clock_place : (n : ℕ) → n < 86_400_000 → offset_place (clock_text n ++ codes "Z") ≡ 12
unfolding clock_text
clock_place n small =
    let h = n / 3_600_000 in
    let m = n / 60_000 % 60 in
    let s = n / 1_000 % 60 in
    let f = n % 1_000 in
    rw (no_offset (h / 10) (omega arith), no_offset (h % 10) (omega arith), no_offset (m / 10) (omega arith), no_offset (m % 10) (omega arith), no_offset (s / 10) (omega arith), no_offset (s % 10) (omega arith), no_offset (f / 100) (omega arith), no_offset (f % 100 / 10) (omega arith), no_offset (f % 100 % 10) (omega arith)) refl

-- the whole text
text_parts : (n : ℕ) → (take 10 (instant_text (pos n)) ≡ date_text (n / 86_400_000)) × (drop 11 (instant_text (pos n)) ≡ clock_text (n % 86_400_000) ++ codes "Z") × (slice_index (instant_text (pos n)) 10 ≡ 84) × (length (instant_text (pos n)) ≡ 24) × (slice_index (instant_text (pos n)) 4 ≡ 45)
unfolding instant_text date_text clock_text
text_parts n = (refl, refl, refl, refl, refl)

after_clock : (n : ℕ) → (take 12 (clock_text n ++ codes "Z") ≡ clock_text n) × (drop 12 (clock_text n ++ codes "Z") ≡ codes "Z")
unfolding clock_text
after_clock n = (refl, refl)

no_zone : offset_of (codes "Z") ≡ Some (pos 0)
unfolding offset_of
no_zone = refl

-- the last instant as a count of milliseconds
abbrev last_count : ℕ
last_count = unsigned_abs last_instant

time_reads : (n : ℕ) → n ≤ last_count → date_time_of (instant_text (pos n)) ≡ Some (pos n)
unfolding date_time_of
time_reads n small =
    let parts = text_parts n in
    let rest = after_clock (n % 86_400_000) in
    let whole : n / 86_400_000 * 86_400_000 + n % 86_400_000 + 0 ≡ n = omega arith in
    rw (parts.2, parts.0, parts.1, clock_place (n % 86_400_000) (omega arith), rest.0, rest.1, no_zone, date_reads (n / 86_400_000) (omega arith), clock_reads (n % 86_400_000) (omega arith))
    (ap (λ x. Some (pos x)) whole)

text_written : (n : ℕ) → n ≤ last_count → written_of (instant_text (pos n)) ≡ Some (pos n)
unfolding written_of
text_written n small =
    let parts = text_parts n in
    let dash : is_ascii_digit (get_or (instant_text (pos n)) 4 0) ≡ false = rw parts.4 refl in
    let not_digits = and_fails_at all_ascii_digits is_ascii_digit refl (λ _ _. refl) (instant_text (pos n)) 4 0 (omega arith) dash in
    rw (not_digits, parts.3) (time_reads n small)

text_reads : (n : ℕ) → n ≤ last_count → instant_of (instant_text (pos n)) ≡ Some (pos n)
unfolding instant_of
text_reads n small = rw (text_written n small, le-leb 0 n (omega arith), le-leb n last_count small) refl

pub print_reads : PrintedReadsBack
print_reads (pos n) h = text_reads n (omega (arith, ints))
print_reads (negsuc n) h = absurd (omega (arith, ints))

-- it is ASCII
two_ascii : (n : ℕ) → n < 100 → IsAscii (two_digits n)
two_ascii n h = IsAscii-cons (48 + n / 10) ((48 + n % 10) ∷ []) (omega arith) (IsAscii-cons (48 + n % 10) [] (omega arith) IsAscii-nil)

-- a byte and more behind a text
then_byte : (xs ys : List ℕ) (b : ℕ) → b < 128 → IsAscii xs → IsAscii ys → IsAscii (xs ++ b ∷ ys)
then_byte xs ys b h p q = IsAscii-append xs (b ∷ ys) p (IsAscii-cons b ys h q)

date_ascii : (day : ℕ) → day ≤ 2_932_896 → IsAscii (date_text day)
unfolding date_text
date_ascii day small =
    let parts = short day small in
    let y = year_of day in
    let month = two_digits (month_of day) in
    let day_in_month = two_digits (day_of_month day) in
    then_byte (four_digits y) (month ++ 45 ∷ day_in_month) 45 (omega arith)
    (IsAscii-append (two_digits (y / 100)) (two_digits (y % 100)) (two_ascii (y / 100) (omega arith)) (two_ascii (y % 100) (omega arith)))
    (then_byte month day_in_month 45 (omega arith) (two_ascii (month_of day) parts.month) (two_ascii (day_of_month day) parts.day_in_month))

clock_ascii : (n : ℕ) → n < 86_400_000 → IsAscii (clock_text n)
unfolding clock_text
clock_ascii n small =
    let h = two_digits (n / 3_600_000) in
    let m = two_digits (n / 60_000 % 60) in
    let s = two_digits (n / 1_000 % 60) in
    let f = three_digits (n % 1_000) in
    then_byte h (m ++ 58 ∷ (s ++ 46 ∷ f)) 58 (omega arith) (two_ascii (n / 3_600_000) (omega arith))
    (then_byte m (s ++ 46 ∷ f) 58 (omega arith) (two_ascii (n / 60_000 % 60) (omega arith))
    (then_byte s f 46 (omega arith) (two_ascii (n / 1_000 % 60) (omega arith))
    (IsAscii-cons (48 + n % 1_000 / 100) (two_digits (n % 1_000 % 100)) (omega arith) (two_ascii (n % 1_000 % 100) (omega arith)))))

text_ascii : (n : ℕ) → n ≤ last_count → IsAscii (instant_text (pos n))
unfolding instant_text
text_ascii n small =
    let date = date_text (n / 86_400_000) in
    let time = clock_text (n % 86_400_000) in
    IsAscii-append ((date ++ codes "T") ++ time) (codes "Z")
    (IsAscii-append (date ++ codes "T") time (then_byte date [] 84 (omega arith) (date_ascii (n / 86_400_000) (omega arith)) IsAscii-nil) (clock_ascii (n % 86_400_000) (omega arith)))
    (IsAscii-cons 90 [] (omega arith) IsAscii-nil)

pub instant_text_ascii : (t : ℤ) → IsInstant t → IsAscii (instant_text t)
instant_text_ascii (pos n) h = text_ascii n (omega (arith, ints))
instant_text_ascii (negsuc n) h = absurd (omega (arith, ints))

-- a date, a T, a time and a Z, byte by byte
pub instant_text-bytes : (date time : List ℕ) (t : ℤ) → date ≡ date_text (unsigned_abs t / 86_400_000) → time ≡ clock_text (unsigned_abs t % 86_400_000) →
    (get_or date 0 0 ∷ get_or date 1 0 ∷ get_or date 2 0 ∷ get_or date 3 0 ∷ get_or date 4 0 ∷ get_or date 5 0 ∷ get_or date 6 0 ∷ get_or date 7 0 ∷ get_or date 8 0 ∷ get_or date 9 0 ∷ 84 ∷
    get_or time 0 0 ∷ get_or time 1 0 ∷ get_or time 2 0 ∷ get_or time 3 0 ∷ get_or time 4 0 ∷ get_or time 5 0 ∷ get_or time 6 0 ∷ get_or time 7 0 ∷ get_or time 8 0 ∷ get_or time 9 0 ∷ get_or time 10 0 ∷ get_or time 11 0 ∷ 90 ∷ []) ≡ instant_text t
unfolding date_text clock_text instant_text
instant_text-bytes date time t d c = rw (d, c) refl
