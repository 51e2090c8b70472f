-- The text of an instant.
use Rattle.std.specs.Prelude.{ℕ, ◌+◌, ◌/◌, ◌%◌, List, [], ◌∷◌, ◌++◌, codes, ℤ, unsigned_abs}
use Rattle.time_text.specs.Day.{year_of, month_of, day_of_month}

-- a number below 100, 1,000 or 10,000 in so many digits
abbrev pub two_digits : ℕ → List ℕ
two_digits n = (48 + n / 10) ∷ (48 + n % 10) ∷ []

abbrev pub three_digits : ℕ → List ℕ
three_digits n = (48 + n / 100) ∷ two_digits (n % 100)

abbrev pub four_digits : ℕ → List ℕ
four_digits n = two_digits (n / 100) ++ two_digits (n % 100)

-- YYYY-MM-DD of a day's number
unfoldable pub date_text : ℕ → List ℕ
date_text day = four_digits (year_of day) ++ codes "-" ++ two_digits (month_of day) ++ codes "-" ++ two_digits (day_of_month day)

-- yyyy.MM.dd of the day of an instant, in UTC
unfoldable pub day_text : ℤ → List ℕ
day_text t =
    let day = unsigned_abs t / 86_400_000 in
    four_digits (year_of day) ++ codes "." ++ two_digits (month_of day) ++ codes "." ++ two_digits (day_of_month day)

-- hh:mm:ss.mmm of the milliseconds since midnight
unfoldable pub clock_text : ℕ → List ℕ
clock_text millis =
    two_digits (millis / 3_600_000) ++ codes ":" ++ two_digits (millis / 60_000 % 60) ++ codes ":" ++
    two_digits (millis / 1_000 % 60) ++ codes "." ++ three_digits (millis % 1_000)

-- YYYY-MM-DDThh:mm:ss.mmmZ of an instant
unfoldable pub instant_text : ℤ → List ℕ
instant_text t =
    date_text (unsigned_abs t / 86_400_000) ++ codes "T" ++ clock_text (unsigned_abs t % 86_400_000) ++ codes "Z"
