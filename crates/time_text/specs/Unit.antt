-- The units of intervals.
use Rattle.std.specs.Prelude.{ℕ, List, codes, Option, Some, None, if◌then◌else◌}
use Rattle.time_text.specs.declared.units.Unit.{Unit as IntervalUnit}
use Rattle.time_text.specs.declared.units.Unit.TheVariants.{Ms, S, M, H, D}
use Rattle.time_text.specs.Shape.{has_shape}

-- how many milliseconds a unit has
abbrev pub unit_ms : IntervalUnit → ℕ
unit_ms Ms = 1
unit_ms S = 1_000
unit_ms M = 60_000
unit_ms H = 3_600_000
unit_ms D = 86_400_000

-- how a unit is written
abbrev pub unit_text : IntervalUnit → List ℕ
unit_text Ms = codes "ms"
unit_text S = codes "s"
unit_text M = codes "m"
unit_text H = codes "h"
unit_text D = codes "d"

-- the unit that a text names
unfoldable pub unit_of : List ℕ → Option IntervalUnit
unit_of s =
    if has_shape (codes "ms") s then Some Ms
    else (if has_shape (codes "s") s then Some S
    else (if has_shape (codes "m") s then Some M
    else (if has_shape (codes "h") s then Some H
    else (if has_shape (codes "d") s then Some D else None))))
