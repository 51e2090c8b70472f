-- What an index in memory keeps.
use Rattle.std.specs.Prelude.{◌≡◌, ℕ, List, [], length}
use Rattle.row_cells.specs.declared.schemas.Schema.{Schema}
use Rattle.row_cells.specs.Each.{Each}
use Rattle.tsds_index.specs.declared.shard.Shard.{Shard}
use Rattle.tsds_index.specs.Segments.{AreOfSchema}
use Rattle.tsds_index.specs.Shards.{parts_of}
use Rattle.tsds_index.specs.Sound.{IsSpread}
use Rattle.tsds_index.specs.Spread.{Spread, all_rows}

-- what shards stand for
abbrev pub spread_of : Schema → List Shard → Spread
spread_of schema shards = record { schema = schema; parts = parts_of shards }

-- shards of an index of a schema, whose segments are of it
pub record AreShards (schema : Schema) (shards : List Shard) : Type 0 where
  pub spread : IsSpread (spread_of schema shards)
  pub schemas : Each (λ shard. AreOfSchema schema shard.sealed.items) shards

-- and how many rows there are
pub record IsKept (schema : Schema) (shards : List Shard) (rows : ℕ) : Type 0 where
  pub are : AreShards schema shards
  pub counted : rows ≡ length (all_rows (parts_of shards))

-- each shard is one segment
abbrev pub AreSealed : List Shard → Type 0
AreSealed shards = Each (λ shard. (length shard.sealed.items ≡ 1) × (shard.buffer ≡ [])) shards
