-- What calls answer of the rows of a segment.
use Rattle.std.specs.Prelude.{◌≡◌, ℕ, if◌then◌else◌, ℤ, int_le, int_lt, Bool, true, ◌&&◌, List, [], ◌∷◌, length, slice_range, ◌≤◌, Option, Some, None}
use Rattle.std.specs.List.{filter}
use Rattle.std.specs.Ordering.{int_eq, nat_cmp, is_gt}
use Rattle.std.specs.Cmp.Lexicographic.{slice_cmp}
use Rattle.std.specs.Str.{bytes_eq}
use Rattle.fold_law.specs.Laws.{fold_of}
use Rattle.fold_law.specs.Gauges.{no_gauge, merge_gauges}
use Rattle.fold_law.specs.declared.measures.Gauge.{Gauge}
use Rattle.row_cells.specs.declared.rows.Row.{Row}
use Rattle.row_cells.specs.declared.schemas.Field.{Field}
use Rattle.row_cells.specs.declared.schemas.Role.TheVariants.{Gauge as GaugeRole}
use Rattle.row_cells.specs.Merging.{parts_of}
use Rattle.index_segment.specs.Columns.{cell_at}
use Rattle.row_cells.specs.Mapped.{IsRoleAt}

-- a row is of a series, at or behind one time and before another
abbrev pub is_within : List ℕ → ℤ → ℤ → Row → Bool
is_within key from to row = bytes_eq row.key key && int_le from row.time && int_lt row.time to

-- the rows of a series from a time up to another, which isn't in it
abbrev pub rows_within : List ℕ → ℤ → ℤ → List Row → List Row
rows_within key from to rows = filter (is_within key from to) rows

-- the rows of a series and a range of times are those from one place up to another
pub record IsRange (key : List ℕ) (from to : ℤ) (rows : List Row) (first last : ℕ) : Type 0 where
  pub ordered : first ≤ last
  pub inside : last ≤ length rows
  pub same : rows_within key from to rows ≡ slice_range rows first last

-- what a row has in a gauge
abbrev pub gauge_at : ℕ → Row → Gauge
gauge_at place row = record { 0 = parts_of (cell_at place row) }

-- the fold of what rows have in the gauge at a place of the schema
abbrev pub gauge_of : ℕ → List Row → Gauge
gauge_of place rows = fold_of no_gauge merge_gauges (gauge_at place) rows

-- a row is that of a series and a time
abbrev pub is_at : List ℕ → ℤ → Row → Bool
is_at key time row = bytes_eq row.key key && int_eq row.time time

-- a key stands behind another, or behind none
abbrev pub is_behind : Option (List ℕ) → List ℕ → Bool
is_behind None key = true
is_behind (Some before) key = is_gt (slice_cmp nat_cmp key before)

-- the first key behind another
abbrev pub first_behind : Option (List ℕ) → List (List ℕ) → Option (List ℕ)
first_behind before [] = None
first_behind before (key ∷ keys) = if is_behind before key then Some key else first_behind before keys

-- the field at a place is a gauge
abbrev pub IsGaugeAt : List Field → ℕ → Type 0
IsGaugeAt fields place = IsRoleAt GaugeRole fields place
