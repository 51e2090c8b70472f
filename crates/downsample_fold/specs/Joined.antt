-- The fold as neighbours that are joined: the working form, in which the laws are proved. Rows stand in row order, so the rows
-- of a place are neighbours, and each is later than the ones behind it.
use Rattle.std.specs.Prelude.{ℕ, ◌&&◌, List, [], ◌∷◌, Bool, if◌then◌else◌}
use Rattle.std.specs.Str.{bytes_eq}
use Rattle.std.specs.Ordering.{int_eq}
use Rattle.time_text.specs.Bucket.{bucket_start}
use Rattle.row_cells.specs.declared.schemas.Schema.{Schema}
use Rattle.row_cells.specs.declared.rows.Row.{Row}
use Rattle.row_cells.specs.Merging.{merge_of_rows, fold_of_row}

-- a row at the start of its bucket, folded alone
abbrev pub placed : Schema → ℕ → Row → Row
placed schema n row = fold_of_row schema (record row { time = bucket_start n row.time })

-- two rows of one series and time
abbrev pub are_at_one : Row → Row → Bool
are_at_one a b = bytes_eq a.key b.key && int_eq a.time b.time

-- a row in front of folded rows, joined with the first where that has its place
abbrev pub put : Schema → Row → List Row → List Row
put schema row [] = row ∷ []
put schema row (next ∷ rest) = if are_at_one row next then merge_of_rows schema next row ∷ rest else row ∷ next ∷ rest

abbrev pub joined : Schema → ℕ → List Row → List Row
joined schema n [] = []
joined schema n (row ∷ rows) = put schema (placed schema n row) (joined schema n rows)
