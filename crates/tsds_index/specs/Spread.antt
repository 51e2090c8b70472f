-- How the rows of an index are spread: over shards, and there over sealed lists and a write buffer.
use Rattle.std.specs.Prelude.{ℕ, List, [], ◌∷◌, ◌++◌, slice_index_or}
use Rattle.row_cells.specs.declared.schemas.Schema.{Schema}
use Rattle.row_cells.specs.declared.rows.Row.{Row}
use Rattle.row_cells.specs.RowLists.{in_row_order}

-- a shard: the rows of each of its segments, the oldest first, and those of its write buffer
pub record Part : Type 0 where
  pub sealed : List (List Row)
  pub buffer : List Row

-- an index: its schema, and its shards
pub record Spread : Type 0 where
  pub schema : Schema
  pub parts : List Part

-- a shard without rows
abbrev pub no_part : Part
no_part = record { sealed = []; buffer = [] }

-- lists joined, the last one in front
abbrev pub newest_first : List (List Row) → List Row
newest_first [] = []
newest_first (rows ∷ lists) = newest_first lists ++ rows

-- the rows of a shard, list by list
abbrev pub rows_in : Part → List Row
rows_in p = p.buffer ++ newest_first p.sealed

-- the rows of shards, one shard behind the other
abbrev pub all_rows : List Part → List Row
all_rows [] = []
all_rows (p ∷ ps) = rows_in p ++ all_rows ps

-- the rows of an index, in row order
unfoldable pub rows_of : Spread → List Row
rows_of h = in_row_order (all_rows h.parts)

-- the shard of a number
abbrev pub part_at : Spread → ℕ → Part
part_at h shard = slice_index_or h.parts shard no_part
