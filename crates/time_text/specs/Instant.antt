-- Instants, and the texts that are read as instants.
use Rattle.std.specs.Prelude.{ℕ, ◌+◌, ◌-◌, ◌*◌, ◌^◌, Bool, ◌&&◌, ◌||◌, ◌==◌, nat_le, if◌then◌else◌, List, length, take, drop, [], slice_index, codes, Option, Some, None, ℤ, pos, neg_ℤ, ◌+ℤ◌, ◌-ℤ◌, ◌*ℤ◌, int_le, option_map}
use Rattle.std.specs.List.{position_or_len}
use Rattle.std.specs.Str.{all_ascii_digits}
use Rattle.std.specs.Str.Parse.{digits_value}
use Rattle.jiff_core.specs.Calendar.{IsBetween}
use Rattle.edge_face.specs.Limits.{last_instant}
use Rattle.time_text.specs.Shape.{◌>>=◌, has_shape, number}
use Rattle.time_text.specs.Day.{day_number}

-- a number of milliseconds since 1970-01-01T00:00:00Z, up to the last one of the year 9999
abbrev pub IsInstant : ℤ → Type 0
IsInstant t = IsBetween (pos 0) last_instant t

-- the number, if it is an instant
abbrev pub in_range : ℤ → Option ℤ
in_range t = if int_le (pos 0) t && int_le t last_instant then Some t else None

-- the day number of a text YYYY-MM-DD, if the calendar has that day
unfoldable pub day_of : List ℕ → Option ℤ
day_of s = if has_shape (codes "####-##-##") s then day_number (number s 0 4) (number s 5 7) (number s 8 10) else None

-- the milliseconds since midnight of a clock that shows these parts, if there is such a time of day
abbrev pub clock : ℕ → ℕ → ℕ → ℕ → Option ℕ
clock hours minutes seconds millis =
    if nat_le hours 23 && nat_le minutes 59 && nat_le seconds 59
    then Some (((hours * 60 + minutes) * 60 + seconds) * 1000 + millis) else None

-- the first three digits of a fraction of a second, as milliseconds; later digits are dropped
unfoldable pub thousandths : List ℕ → ℕ
thousandths digits = number digits 0 3 * 10 ^ (3 - length (take 3 digits))

-- one to nine digits
abbrev pub is_fraction : List ℕ → Bool
is_fraction s = all_ascii_digits s && nat_le 1 (length s) && nat_le (length s) 9

-- the milliseconds since midnight of a text hh:mm:ss.f, where f is a fraction
unfoldable pub exact_clock_of : List ℕ → Option ℕ
exact_clock_of s =
    if has_shape (codes "##:##:##.") (take 9 s) && is_fraction (drop 9 s)
    then clock (number (take 9 s) 0 2) (number (take 9 s) 3 5) (number (take 9 s) 6 8) (thousandths (drop 9 s))
    else None

-- the milliseconds since midnight of a text hh:mm, hh:mm:ss or hh:mm:ss.f
unfoldable pub clock_of : List ℕ → Option ℕ
clock_of s =
    if has_shape (codes "##:##") s then clock (number s 0 2) (number s 3 5) 0 0
    else (if has_shape (codes "##:##:##") s then clock (number s 0 2) (number s 3 5) (number s 6 8) 0
    else exact_clock_of s)

-- the milliseconds of an offset of at most 18 hours
abbrev pub offset : ℕ → ℕ → Option ℕ
offset hours minutes =
    if nat_le minutes 59 && nat_le (hours * 60 + minutes) 1080 then Some ((hours * 60 + minutes) * 60_000) else None

-- how far east of UTC a text is, in milliseconds: nothing and Z are UTC, +hh:mm is east and -hh:mm is west
unfoldable pub offset_of : List ℕ → Option ℤ
offset_of s =
    if has_shape [] s || has_shape (codes "Z") s then Some (pos 0)
    else (if has_shape (codes "+##:##") s then option_map pos (offset (number s 1 3) (number s 4 6))
    else (if has_shape (codes "-##:##") s then option_map (λ west. neg_ℤ (pos west)) (offset (number s 1 3) (number s 4 6))
    else None))

-- an offset begins with one of these
abbrev pub begins_offset : ℕ → Bool
begins_offset byte = (byte == 90) || (byte == 43) || (byte == 45)

-- where the offset begins: at the first such byte, or at the end
abbrev pub offset_place : List ℕ → ℕ
offset_place s = position_or_len begins_offset s

-- a day, a T, a clock, and an offset
unfoldable pub date_time_of : List ℕ → Option ℤ
date_time_of s =
    if slice_index s 10 == 84 then (day_of (take 10 s) >>= λ day.
    clock_of (take (offset_place (drop 11 s)) (drop 11 s)) >>= λ clock.
    offset_of (drop (offset_place (drop 11 s)) (drop 11 s)) >>= λ offset.
    Some (day *ℤ pos 86_400_000 +ℤ pos clock -ℤ offset))
    else None

-- what a text says, in range or not: five to fifteen digits are milliseconds, up to ten other bytes a day,
-- which stands for its midnight, and more are a day and a time
unfoldable pub written_of : List ℕ → Option ℤ
written_of s =
    if all_ascii_digits s
    then (if nat_le 5 (length s) && nat_le (length s) 15 then Some (pos (digits_value 10 s)) else None)
    else (if nat_le (length s) 10 then option_map (λ day. day *ℤ pos 86_400_000) (day_of s) else date_time_of s)

-- the instant that a text is read as, if it is an instant text
unfoldable pub instant_of : List ℕ → Option ℤ
instant_of s = written_of s >>= in_range
