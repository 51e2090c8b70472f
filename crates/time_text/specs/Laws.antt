-- The laws of instants, intervals and buckets.
use Rattle.std.specs.Prelude.{◌≡◌, ℕ, ◌*◌, ◌%◌, ◌<◌, ◌≤◌, List, Some, ℤ, pos, ◌*ℤ◌, ◌≤ℤ◌}
use Rattle.std.specs.Int.{IsInRange}
use Rattle.time_text.specs.declared.units.Unit.{Unit as IntervalUnit}
use Rattle.time_text.specs.Count.{longest}
use Rattle.time_text.specs.Unit.{unit_ms}
use Rattle.time_text.specs.Instant.{IsInstant, instant_of}
use Rattle.time_text.specs.Interval.{interval_of, interval_text}
use Rattle.time_text.specs.Printed.{instant_text}
use Rattle.time_text.specs.Bucket.{bucket_start}
use Rattle.time_text.specs.Day.{day_number, year_of, month_of, day_of_month}

-- what is printed of an instant is read as that instant
abbrev pub PrintedReadsBack : Type 0
PrintedReadsBack = (t : ℤ) → IsInstant t → instant_of (instant_text t) ≡ Some t

-- what is printed of an interval is read as that interval
abbrev pub IntervalReadsBack : Type 0
IntervalReadsBack = (number : ℕ) (unit : IntervalUnit) → IsInRange 1 longest (number * unit_ms unit) → interval_of (interval_text number unit) ≡ Some (number, unit)

-- an interval is printed as it was written
abbrev pub IntervalPrintsAsWritten : Type 0
IntervalPrintsAsWritten = (text : List ℕ) (number : ℕ) (unit : IntervalUnit) → interval_of text ≡ Some (number, unit) → text ≡ interval_text number unit

-- a bucket's start is a whole multiple of the width, and of those that are at most the moment the greatest
abbrev pub BucketIsGreatest : Type 0
BucketIsGreatest = (n : ℕ) (t : ℤ) → 0 < n →
    ((k : ℤ) × (bucket_start n t ≡ pos n *ℤ k)) × (bucket_start n t ≤ℤ t) ×
    ((k : ℤ) → (pos n *ℤ k) ≤ℤ t → (pos n *ℤ k) ≤ℤ bucket_start n t)

-- where one width divides another, the wide bucket of a narrow bucket's start is the wide bucket of the moment
abbrev pub BucketsNest : Type 0
BucketsNest = (m n : ℕ) (t : ℤ) → 0 < n → 0 < m → n % m ≡ 0 → bucket_start n (bucket_start m t) ≡ bucket_start n t

-- so it is an instant where the moment is one
abbrev pub BucketOfInstant : Type 0
BucketOfInstant = (n : ℕ) (t : ℤ) → 0 < n → IsInstant t → IsInstant (bucket_start n t)

-- the date that is printed of a day's number is a day of the calendar, and has that number
abbrev pub PrintedDatesAreCivil : Type 0
PrintedDatesAreCivil = (day : ℕ) → day ≤ 2_932_896 → day_number (year_of day) (month_of day) (day_of_month day) ≡ Some (pos day)
