-- Intervals, and the texts that are read as intervals.
use Rattle.std.specs.Prelude.{◌≡◌, ℕ, ◌*◌, ◌&&◌, nat_le, if◌then◌else◌, Bool, true, false, List, take, drop, decimal, ◌++◌, Option, Some, None}
use Rattle.std.specs.Int.{IsInRange}
use Rattle.std.specs.Char.{is_ascii_digit}
use Rattle.std.specs.List.{prefix_len}
use Rattle.std.specs.Str.Parse.{digits_value}
use Rattle.time_text.specs.declared.intervals.Interval.{Interval}
use Rattle.time_text.specs.declared.units.Unit.{Unit as IntervalUnit}
use Rattle.time_text.specs.Shape.{◌>>=◌}
use Rattle.time_text.specs.Unit.{unit_ms, unit_text, unit_of}
use Rattle.time_text.specs.Count.{is_count, longest}
use Rattle.std.proofs.Common.{refl}
use Rattle.std.proofs.lemmas.Bool.{and_parts, leb-true}

-- how many milliseconds an interval has
abbrev pub ms_of : Interval → ℕ
ms_of i = i.number * unit_ms i.unit

-- how a number of a unit is written
abbrev pub interval_text : ℕ → IntervalUnit → List ℕ
interval_text number unit = decimal number ++ unit_text unit

-- whether so many units are from one millisecond to the longest interval
abbrev pub is_length : ℕ → IntervalUnit → Bool
is_length number unit = nat_le 1 (number * unit_ms unit) && nat_le (number * unit_ms unit) longest

-- a number and a unit, if an interval may have them
abbrev pub with_value_in_range : ℕ → IntervalUnit → Option (ℕ × IntervalUnit)
with_value_in_range number unit = if is_length number unit then Some (number, unit) else None

-- the number and the unit of an interval text: the digits at its front, and the rest
unfoldable pub interval_of : List ℕ → Option (ℕ × IntervalUnit)
interval_of s =
    if is_count (take (prefix_len is_ascii_digit s) s)
    then (unit_of (drop (prefix_len is_ascii_digit s) s) >>=
    with_value_in_range (digits_value 10 (take (prefix_len is_ascii_digit s) s)))
    else None

pub is_range : (number : ℕ) (unit : IntervalUnit) → is_length number unit ≡ true → IsInRange 1 longest (number * unit_ms unit)
is_range number unit is =
    let parts = and_parts (nat_le 1 (number * unit_ms unit)) (nat_le (number * unit_ms unit) longest) is in
    (leb-true 1 (number * unit_ms unit) parts.0, leb-true (number * unit_ms unit) longest parts.1)

abbrev pub interval_if : (number : ℕ) (unit : IntervalUnit) (allowed : Bool) → is_length number unit ≡ allowed → Option Interval
interval_if number unit true is = Some (record { number = number; unit = unit; in_range = is_range number unit is })
interval_if number unit false is = None

-- the interval of so many units, if it has an allowed length
abbrev pub interval_with : ℕ → IntervalUnit → Option Interval
interval_with number unit = interval_if number unit (is_length number unit) refl

-- the interval that a text is read as, if it is an interval text
unfoldable pub interval_in : List ℕ → Option Interval
interval_in s = interval_of s >>= λ read. interval_with read.0 read.1
