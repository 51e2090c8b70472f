-- Segments in memory.
use Rattle.std.specs.Prelude.{◌≡◌, List, map}
use Rattle.row_cells.specs.declared.schemas.Schema.{Schema}
use Rattle.row_cells.specs.declared.rows.Row.{Row}
use Rattle.row_cells.specs.Each.{Each}
use Rattle.index_segment.specs.Held.{Held}

-- the rows of segments
abbrev pub lists_in : List Held → List (List Row)
lists_in segments = map (λ segment. segment.rows) segments

-- segments of a schema
abbrev pub AreOfSchema : Schema → List Held → Type 0
AreOfSchema schema segments = Each (λ segment. segment.schema ≡ schema) segments
