-- The order of rows: by key, and the latest first within a series.
use Rattle.std.specs.Cmp.Lexicographic.{slice_cmp}
use Rattle.std.specs.Ordering.{on, flip_args, then_cmp, nat_cmp, int_cmp}
use Rattle.std.specs.declared.cmp.Ordering.{Ordering}
use Rattle.row_cells.specs.declared.rows.Row.{Row}

-- key ascending, then time descending
abbrev pub row_cmp : Row → Row → Ordering
row_cmp = then_cmp (on (λ row. row.key) (slice_cmp nat_cmp)) (flip_args (on (λ row. row.time) int_cmp))
