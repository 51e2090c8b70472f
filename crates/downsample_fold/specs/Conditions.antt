-- What rows are that may be folded.
use Rattle.std.specs.Prelude.{◌≡◌, ℕ, List, length}
use Rattle.row_cells.specs.declared.schemas.Schema.{Schema}
use Rattle.row_cells.specs.declared.rows.Row.{Row}
use Rattle.row_cells.specs.Each.{Each}
use Rattle.time_text.specs.Bucket.{bucket_start}

-- each row has a cell for each field, as one that fits has
abbrev pub HaveCells : Schema → List Row → Type 0
HaveCells schema rows = Each (λ row. length row.cells ≡ length schema.fields) rows

-- the time of each row is the start of a bucket of n milliseconds
abbrev pub AllAtStarts : ℕ → List Row → Type 0
AllAtStarts n rows = Each (λ row. bucket_start n row.time ≡ row.time) rows
