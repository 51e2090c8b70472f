-- Shards in memory.
use Rattle.std.specs.Prelude.{◌≤◌, List, map}
use Rattle.row_cells.specs.declared.schemas.Schema.{Schema}
use Rattle.row_cells.specs.Limits.{most_documents}
use Rattle.row_cells.specs.RowLists.{documents}
use Rattle.tsds_index.specs.declared.shard.Shard.{Shard}
use Rattle.tsds_index.specs.Segments.{AreOfSchema, lists_in}
use Rattle.tsds_index.specs.Sound.{IsPart}
use Rattle.tsds_index.specs.Spread.{Part, rows_in}

-- what a shard stands for
abbrev pub part_of : Shard → Part
part_of shard = record { sealed = lists_in shard.sealed.items; buffer = shard.buffer }

abbrev pub parts_of : List Shard → List Part
parts_of shards = map part_of shards

-- what is known of a shard of an index of a schema
pub record IsShard (schema : Schema) (shard : Shard) : Type 0 where
  pub schemas : AreOfSchema schema shard.sealed.items
  pub part : IsPart schema (part_of shard)
  pub few : documents (rows_in (part_of shard)) ≤ most_documents
