-- Days of the calendar and their numbers, by the calendar of jiff.
use Rattle.std.specs.Prelude.{ℕ, zero, suc, Bool, ◌&&◌, nat_le, if◌then◌else◌, Option, Some, None, ℤ, pos, int_le}
use Rattle.jiff_core.specs.Calendar.{days_in_month, days_from_civil}

-- the calendar has this day
abbrev pub is_civil : ℕ → ℕ → ℕ → Bool
is_civil y m d = nat_le 1 m && nat_le m 12 && nat_le 1 d && nat_le d (days_in_month (pos y) m)

-- the number of this day, if the calendar has it
unfoldable pub day_number : ℕ → ℕ → ℕ → Option ℤ
day_number y m d = if is_civil y m d then Some (days_from_civil (pos y) m d) else None

-- the last number below a limit that passes, and 0 if none does
unfoldable pub last_where : (ℕ → Bool) → ℕ → ℕ
last_where p zero = 0
last_where p (suc n) = if p n then n else last_where p n

-- the year of the day with this number: the last one that begins no later
unfoldable pub year_of : ℕ → ℕ
year_of day = last_where (λ y. int_le (days_from_civil (pos y) 1 1) (pos day)) 10_000

-- its month: the last one of the year that begins no later
unfoldable pub month_of : ℕ → ℕ
month_of day = last_where (λ m. int_le (days_from_civil (pos (year_of day)) m 1) (pos day)) 13

-- its place in the month
unfoldable pub day_of_month : ℕ → ℕ
day_of_month day = last_where (λ d. int_le (days_from_civil (pos (year_of day)) (month_of day) d) (pos day)) 32
