-- What is known of every index.
use Rattle.std.specs.Prelude.{◌≡◌, ℕ, suc, ◌≤◌, List, [], ◌∷◌, length}
use Rattle.row_cells.specs.declared.schemas.Schema.{Schema}
use Rattle.row_cells.specs.declared.rows.Row.{Row}
use Rattle.row_cells.specs.Each.{Each}
use Rattle.row_cells.specs.KeyedRows.{AreRowsOf}
use Rattle.row_cells.specs.Limits.{most_documents}
use Rattle.row_cells.specs.Mapped.{IsMapped, PlacesAscend}
use Rattle.row_cells.specs.RowLists.{AreDistinct, documents}
use Rattle.shard_route.specs.Routing.{shard_of_key}
use Rattle.tsds_index.specs.Limits.{longest_buffer, most_shards}
use Rattle.tsds_index.specs.Spread.{Part, Spread, rows_in, all_rows}

-- a schema as a template gives it, with routing fields whose places ascend
pub record IsRouted (schema : Schema) : Type 0 where
  pub mapped : IsMapped schema
  pub routing : PlacesAscend (length schema.fields) schema.routing

-- a shard: rows of the schema in each list, none of them twice, and few in the buffer
pub record IsPart (schema : Schema) (p : Part) : Type 0 where
  pub sealed : Each (AreRowsOf schema) p.sealed
  pub buffer : AreRowsOf schema p.buffer
  pub distinct : AreDistinct (rows_in p)
  pub few : length p.buffer ≤ longest_buffer

-- the shard, of so many, of the series with a key
unfoldable pub shard_for : Schema → ℕ → List ℕ → ℕ
shard_for schema shards key = shard_of_key schema key shards

-- each row is of a series of the shard
abbrev pub AreOfShard : Schema → ℕ → ℕ → List Row → Type 0
AreOfShard schema shards shard rows = Each (λ row. shard_for schema shards row.key ≡ shard) rows

-- the shards from a number on, of so many, each with rows of its own series
abbrev pub ArePartsFrom : Schema → ℕ → ℕ → List Part → Type 0
ArePartsFrom schema shards shard [] = Unit {0}
ArePartsFrom schema shards shard (p ∷ ps) = IsPart schema p × AreOfShard schema shards shard (rows_in p) × ArePartsFrom schema shards (suc shard) ps

pub record IsSpread (h : Spread) : Type 0 where
  pub schema : IsRouted h.schema
  pub some : 1 ≤ length h.parts
  pub few_shards : length h.parts ≤ most_shards
  pub parts : ArePartsFrom h.schema (length h.parts) 0 h.parts
  pub few : documents (all_rows h.parts) ≤ most_documents
