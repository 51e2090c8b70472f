-- Moment expressions.
use Rattle.std.specs.Prelude.{ℕ, ◌*◌, if◌then◌else◌, List, take, drop, codes, Option, Some, option_map, ℤ, pos, ◌+ℤ◌, ◌-ℤ◌}
use Rattle.std.specs.Int.{int_max, int_min}
use Rattle.time_text.specs.Shape.{has_shape}
use Rattle.time_text.specs.Unit.{unit_ms}
use Rattle.edge_face.specs.Limits.{last_instant}
use Rattle.time_text.specs.Instant.{instant_of}
use Rattle.time_text.specs.Interval.{interval_of}

-- the nearest instant
abbrev pub cut : ℤ → ℤ
cut t = int_max (pos 0) (int_min last_instant t)

-- the moment that an expression names where `now` is the present: `now`, `now+` or `now-` with an
-- interval, cut to the range of instants, or else an instant text
unfoldable pub moment_of : ℤ → List ℕ → Option ℤ
moment_of now s =
    if has_shape (codes "now") s then Some now
    else (if has_shape (codes "now+") (take 4 s)
    then option_map (λ i. cut (now +ℤ pos (i.0 * unit_ms i.1))) (interval_of (drop 4 s))
    else (if has_shape (codes "now-") (take 4 s)
    then option_map (λ i. cut (now -ℤ pos (i.0 * unit_ms i.1))) (interval_of (drop 4 s))
    else instant_of s))
