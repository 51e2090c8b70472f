-- The names of backing indices, and of what they are downsampled to.
use Rattle.std.specs.Prelude.{◌≡◌, ℕ, ◌/◌, ◌%◌, List, ◌++◌, codes, ℤ, IsTrue, bytes_eq, length, take, Bool}
use Rattle.std.specs.Int.{IsInRange}
use Rattle.time_text.specs.Instant.{IsInstant}
use Rattle.time_text.specs.Interval.{interval_text}
use Rattle.time_text.specs.Printed.{day_text, two_digits}
use Rattle.time_text.specs.declared.intervals.Interval.{Interval}
use Rattle.index_names.specs.Names.{is_stream_name}

-- the greatest generation of a stream
abbrev pub greatest_generation : ℕ
greatest_generation = 999_999

-- a number below 1,000,000 in six digits
abbrev pub six_digits : ℕ → List ℕ
six_digits n = two_digits (n / 10_000) ++ two_digits (n / 100 % 100) ++ two_digits (n % 100)

-- what stands behind the stream: -<yyyy.MM.dd>-<generation>
abbrev pub behind_stream : ℤ → ℕ → List ℕ
behind_stream now generation = codes "-" ++ day_text now ++ codes "-" ++ six_digits generation

-- .ds-<stream>-<yyyy.MM.dd>-<generation>, with the UTC day of the moment
unfoldable pub backing_name : List ℕ → ℤ → ℕ → List ℕ
backing_name stream now generation = codes ".ds-" ++ (stream ++ behind_stream now generation)

-- the name is that of the backing index that a stream gets at a moment as this generation
pub record IsBackingOf (name stream : List ℕ) (now : ℤ) (generation : ℕ) : Type 0 where
  pub of_stream : IsTrue (is_stream_name stream)
  pub at_instant : IsInstant now
  pub within : IsInRange 1 greatest_generation generation
  pub printed : name ≡ backing_name stream now generation

-- what the names of downsampled indices begin with; no other may
abbrev pub reserved_front : List ℕ
reserved_front = codes "downsample-"

-- downsample-<interval>-<origin>
abbrev pub downsample_name : Interval → List ℕ → List ℕ
downsample_name by origin = reserved_front ++ (interval_text by.number by.unit ++ (codes "-" ++ origin))

abbrev pub is_reserved : List ℕ → Bool
is_reserved name = bytes_eq reserved_front (take (length reserved_front) name)
