-- Days of the calendar and their numbers.
use Rattle.std.proofs.Common.{◌≡◌, ℕ, zero, suc, ◌+◌, ◌<◌, ◌≤◌, Bool, true, false, cond, Some, refl, sym, ◌∙◌, arith, ℤ, pos, inl, inr, ◌⊎◌}
use Rattle.std.specs.Prelude.{int_le}
use Rattle.std.proofs.lemmas.Int.{ints}
use Rattle.std.proofs.lemmas.Bool.{le-leb, cases_lt}
use Rattle.jiff_core.specs.Calendar.{IsDate, days_from_civil, days_in_month, days_in_year, day_count}
use Rattle.jiff_core.specs.Date.{IsYmd, epoch_day}
use Rattle.jiff_core.specs.declared.civil.date.Date.{Date}
use Rattle.jiff_core.proofs.CalendarLemmas.{days_from_civil-day_count, day_count-epoch, day_count-next_year, day_count-end, day_count-next_month, day_count-last_of_year, day_count-day, days_in_month_bounds}
use Rattle.jiff_core.proofs.SignedLemmas.{signed_arith}
use Rattle.jiff_core.proofs.DateLemmas.{epoch_day_injective}
use Rattle.time_text.specs.Day.{is_civil, day_number, last_where, year_of, month_of, day_of_month}

civil_test : (y m d : ℕ) → IsDate (pos y) (pos m) (pos d) → is_civil y m d ≡ true
civil_test y m d h =
    let a : 1 ≤ m = omega (arith, ints) in
    let b : m ≤ 12 = omega (arith, ints) in
    let e : 1 ≤ d = omega (arith, ints) in
    let f : d ≤ days_in_month (pos y) m = omega (arith, ints) in
    rw (le-leb 1 m a, le-leb m 12 b, le-leb 1 d e, le-leb d (days_in_month (pos y) m) f) refl

-- the number of a date of jiff is that of its parts
pub day_number-date : (y m d : ℕ) (date : Date) → IsDate (pos y) (pos m) (pos d) → IsYmd (pos y) (pos m) (pos d) date → Some (days_from_civil date.year date.month date.day) ≡ day_number y m d
unfolding day_number
day_number-date y m d date h e =
    let test = civil_test y m d h in
    let month : date.month ≡ m = cc in
    let day : date.day ≡ d = cc in
    rw (test, e.0, month, day) refl

number_is : (y : ℤ) (m d day : ℕ) → day_count y m d ≡ day + 4_371_953 → days_from_civil y m d ≡ pos day
number_is y m d day h = omega (arith, signed_arith, days_from_civil-day_count y m d)

-- the last number that passes: it is below the limit, it passes, and none after it does
pub record IsLast (p : ℕ → Bool) (n k : ℕ) : Type 0 where
  pub passes : p k ≡ true
  pub below : k < n
  pub after : (j : ℕ) → k < j → j < n → p j ≡ false

fails_at : (p : ℕ → Bool) (n j : ℕ) → p n ≡ false → j ≡ n → p j ≡ false
fails_at p n j e same = rw same e

fails_after : (p : ℕ → Bool) (n last j : ℕ) → IsLast p n last → p n ≡ false → last < j → j < suc n → (j < n) ⊎ (n ≤ j) → p j ≡ false
fails_after p n last j h e a b (inl less) = h.after j a less
fails_after p n last j h e a b (inr more) = fails_at p n j e (omega arith)

passes_before : (p : ℕ → Bool) (n k : ℕ) → p n ≡ false → p k ≡ true → k < suc n → (k < n) ⊎ (n ≤ k) → k < n
passes_before p n k e h lt (inl less) = less
passes_before p n k e h lt (inr more) =
    let here : p k ≡ false = fails_at p n k e (omega arith) in cc

step : (p : ℕ → Bool) (n k last : ℕ) (b : Bool) → p n ≡ b → k < suc n → p k ≡ true → (k < n → IsLast p n last × (k ≤ last)) → IsLast p (suc n) (cond b n last) × (k ≤ cond b n last)
step p n k last true e lt h earlier = (record { passes = e; below = omega arith; after = λ j a b. absurd (omega arith) }, omega arith)
step p n k last false e lt h earlier =
    let found = earlier (passes_before p n k e h lt (cases_lt k n)) in
    let below : last < suc n = omega arith in
    (record { passes = found.0.passes; below = below; after = λ j a b. fails_after p n last j found.0 e a b (cases_lt j n) }, found.1)

-- the last number that passes, where k does
pub last_where-IsLast : (p : ℕ → Bool) (n k : ℕ) → k < n → p k ≡ true → IsLast p n (last_where p n) × (k ≤ last_where p n)
unfolding last_where
last_where-IsLast p zero k lt h = absurd (omega arith)
last_where-IsLast p (suc n) k lt h = step p n k (last_where p n) (p n) refl lt h (λ less. last_where-IsLast p n k less h)

-- the tests by day counts, which begin long before
no_later : (y : ℤ) (m d day : ℕ) → int_le (days_from_civil y m d) (pos day) ≡ true → day_count y m d ≤ day + 4_371_953
no_later y m d day h = omega (arith, signed_arith, days_from_civil-day_count y m d, h)

later : (y : ℤ) (m d day : ℕ) → int_le (days_from_civil y m d) (pos day) ≡ false → day + 4_371_953 < day_count y m d
later y m d day h = omega (arith, signed_arith, days_from_civil-day_count y m d, h)

test_no_later : (y : ℤ) (m d day : ℕ) → day_count y m d ≤ day + 4_371_953 → int_le (days_from_civil y m d) (pos day) ≡ true
test_no_later y m d day h = grind (arith, signed_arith, days_from_civil-day_count y m d)

-- a year: the day lies from its first day up to that of the next year
next_year_later : (day y : ℕ) → day ≤ 2_932_896 → IsLast (λ y. int_le (days_from_civil (pos y) 1 1) (pos day)) 10_000 y → (y + 1 < 10_000) ⊎ (10_000 ≤ y + 1) → day + 4_371_953 < day_count (pos (y + 1)) 1 1
next_year_later day y small last (inl less) = later (pos (y + 1)) 1 1 day (last.after (y + 1) (omega arith) less)
next_year_later day y small last (inr more) =
    let same : y + 1 ≡ 10_000 = omega (arith, last.below) in
    rw same (omega (arith, day_count-end))

in_year : (day y : ℕ) → day ≤ 2_932_896 → IsLast (λ y. int_le (days_from_civil (pos y) 1 1) (pos day)) 10_000 y →
    (day_count (pos y) 1 1 ≤ day + 4_371_953) × (day + 4_371_953 < day_count (pos y) 1 1 + days_in_year (pos y))
in_year day y small last =
    let next = day_count-next_year (pos y) (pos (y + 1)) (omega (arith, signed_arith)) refl in
    (no_later (pos y) 1 1 day last.passes, omega (arith, next, next_year_later day y small last (cases_lt (y + 1) 10_000)))

-- a month of it
next_month_later : (day y m : ℕ) → day + 4_371_953 < day_count (pos y) 1 1 + days_in_year (pos y) → IsLast (λ m. int_le (days_from_civil (pos y) m 1) (pos day)) 13 m → 1 ≤ m → (m + 1 < 13) ⊎ (13 ≤ m + 1) → day + 4_371_953 < day_count (pos y) m 1 + days_in_month (pos y) m
next_month_later day y m to last low (inl less) =
    omega (arith, later (pos y) (m + 1) 1 day (last.after (m + 1) (omega arith) less), day_count-next_month (pos y) m low)
next_month_later day y m to last low (inr more) =
    let same : m ≡ 12 = omega (arith, last.below) in
    rw same (omega (arith, to, day_count-last_of_year (pos y), day_count-day (pos y) 12 31 1 (omega arith) (omega arith)))

-- a day of it
day_is : (day y m d : ℕ) → day_count (pos y) m 1 ≤ day + 4_371_953 → day + 4_371_953 < day_count (pos y) m 1 + days_in_month (pos y) m → IsLast (λ d. int_le (days_from_civil (pos y) m d) (pos day)) 32 d → 1 ≤ d → (d + 1 < 32) ⊎ (32 ≤ d + 1) → (d ≤ days_in_month (pos y) m) × (day_count (pos y) m d ≡ day + 4_371_953)
day_is day y m d from to last low (inl less) =
    let here = no_later (pos y) m d day last.passes in
    let next = later (pos y) m (d + 1) day (last.after (d + 1) (omega arith) less) in
    let this = day_count-day (pos y) m d 1 low (omega arith) in
    let other = day_count-day (pos y) m (d + 1) 1 (omega arith) (omega arith) in
    (omega arith, omega arith)
day_is day y m d from to last low (inr more) =
    let here = no_later (pos y) m d day last.passes in
    let this = day_count-day (pos y) m d 1 low (omega arith) in
    let most = days_in_month_bounds (pos y) m in
    let below = last.below in
    (omega arith, omega arith)

-- the year, the month and the day of a day number are those of a day of the calendar, which has that number
pub record IsCivilOf (day y m d : ℕ) : Type 0 where
  pub from : 1970 ≤ y
  pub to : y < 10_000
  pub month_in : (1 ≤ m) × (m ≤ 12)
  pub day_in : (1 ≤ d) × (d ≤ days_in_month (pos y) m)
  pub number : days_from_civil (pos y) m d ≡ pos day

pub civil_of_day : (day : ℕ) → day ≤ 2_932_896 → IsCivilOf day (year_of day) (month_of day) (day_of_month day)
unfolding year_of month_of day_of_month
civil_of_day day small =
    let y = last_where-IsLast (λ y. int_le (days_from_civil (pos y) 1 1) (pos day)) 10_000 1970 (omega arith) (test_no_later (pos 1970) 1 1 day (omega (arith, day_count-epoch))) in
    let in_y = in_year day (year_of day) small y.0 in
    let m = last_where-IsLast (λ m. int_le (days_from_civil (pos (year_of day)) m 1) (pos day)) 13 1 (omega arith) (test_no_later (pos (year_of day)) 1 1 day in_y.0) in
    let from_m = no_later (pos (year_of day)) (month_of day) 1 day m.0.passes in
    let to_m = next_month_later day (year_of day) (month_of day) in_y.1 m.0 m.1 (cases_lt (month_of day + 1) 13) in
    let d = last_where-IsLast (λ d. int_le (days_from_civil (pos (year_of day)) (month_of day) d) (pos day)) 32 1 (omega arith) (test_no_later (pos (year_of day)) (month_of day) 1 day from_m) in
    let is_d = day_is day (year_of day) (month_of day) (day_of_month day) from_m to_m d.0 d.1 (cases_lt (day_of_month day + 1) 32) in
    record {
      from = y.1;
      to = y.0.below;
      month_in = (m.1, omega (arith, m.0.below));
      day_in = (d.1, is_d.0);
      number = number_is (pos (year_of day)) (month_of day) (day_of_month day) day is_d.1;
    }

-- a date of jiff with that number has these parts
pub parts_of_date : (date : Date) (day : ℕ) → day ≤ 2_932_896 → epoch_day date ≡ pos day → (date.year ≡ pos (year_of day)) × (date.month ≡ month_of day) × (date.day ≡ day_of_month day)
parts_of_date date day small e =
    let civil = civil_of_day day small in
    let mine : Date = record { year = pos (year_of day); month = month_of day; day = day_of_month day; year_in = omega (arith, signed_arith, civil.to); month_in = civil.month_in; day_in = civil.day_in } in
    epoch_day_injective date mine (e ∙ sym civil.number)
