-- What calls answer and leave.
use Rattle.std.specs.Prelude.{◌≡◌, ℕ, suc, ℤ, ◌+◌, ◌≤◌, true, false, List, [], ◌∷◌, length, map, Option}
use Rattle.std.specs.List.{find}
use Rattle.row_cells.specs.declared.rows.Row.{Row}
use Rattle.row_cells.specs.declared.schemas.Schema.{Schema}
use Rattle.row_cells.specs.Each.{Each}
use Rattle.row_cells.specs.Limits.{most_documents}
use Rattle.row_cells.specs.RowLists.{documents, has_place, insert_row}
use Rattle.index_segment.specs.Held.{Held}
use Rattle.index_segment.specs.Looks.{is_at}
use Rattle.tsds_index.specs.declared.refusal.PutError.{PutError}
use Rattle.tsds_index.specs.declared.refusal.PutError.TheVariants.{Duplicate, Full, NoMemory}
use Rattle.tsds_index.specs.Limits.{most_shards}
use Rattle.tsds_index.specs.Segments.{lists_in}
use Rattle.tsds_index.specs.Sound.{AreOfShard}
use Rattle.tsds_index.specs.Spread.{Part, Spread, all_rows, rows_of}

-- the row of a series and a time, if there is one
abbrev pub row_at : List ℕ → ℤ → List Row → Option Row
row_at key time rows = find (is_at key time) rows

-- the schema and the number of shards are as they were
pub record Keeps (old new : Spread) : Type 0 where
  pub schema : new.schema ≡ old.schema
  pub shards : length new.parts ≡ length old.parts

-- a row in a free place was put among the rows, of which there were not yet too many
pub record IsPut (row : Row) (old new : Spread) : Type 0 where
  pub rows : rows_of new ≡ insert_row row (rows_of old)
  pub free : has_place row.key row.time (rows_of old) ≡ false
  pub room : length (rows_of old) + 1 ≤ most_documents

-- each shard is one sealed list
abbrev pub IsSealed : Spread → Type 0
IsSealed h = Each (λ p. (length p.sealed ≡ 1) × (p.buffer ≡ [])) h.parts

-- the shards that lists are, one for each
abbrev pub restored : List (List Row) → List Part
restored lists = map (λ rows. record { sealed = rows ∷ []; buffer = [] }) lists

-- each list has rows of the series of its shard, from a number on, of so many
abbrev pub AreRoutedFrom : Schema → ℕ → ℕ → List (List Row) → Type 0
AreRoutedFrom schema shards shard [] = Unit {0}
AreRoutedFrom schema shards shard (rows ∷ lists) = AreOfShard schema shards shard rows × AreRoutedFrom schema shards (suc shard) lists

-- segments that are the shards of an index: 1 to 64, each with the series of its shard alone, and few enough documents
pub record IsRestorable (schema : Schema) (segments : List Held) : Type 0 where
  pub some : 1 ≤ length segments
  pub few_shards : length segments ≤ most_shards
  pub routed : AreRoutedFrom schema (length segments) 0 (lists_in segments)
  pub few : documents (all_rows (restored (lists_in segments))) ≤ most_documents

-- why a row isn't put among rows: its place isn't free; it is, and there are as many rows as an index may have; or neither
abbrev pub IsRefusal : Row → List Row → PutError → Type 0
IsRefusal row rows Duplicate = has_place row.key row.time rows ≡ true
IsRefusal row rows Full = (has_place row.key row.time rows ≡ false) × (most_documents ≤ length rows)
IsRefusal row rows NoMemory = (has_place row.key row.time rows ≡ false) × (length rows + 1 ≤ most_documents)
