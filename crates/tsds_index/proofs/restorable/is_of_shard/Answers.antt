use Rattle.std.proofs.Common.{◌≡◌, ◌∙◌, sym, arith, below_more, refl}
use Rattle.index_segment.specs.Directory.{keys_of}
use Rattle.tsds_index.specs.Sound.{shard_for}
use Rattle.tsds_index.proofs.Keys.{each_of_keys, each_of_places, keys_each, place_of_each}
use Rattle.tsds_index.proofs.Restored.{never, shard_told}
use Rattle.tsds_index.proofs.restorable.is_of_shard.Goals as goal

pub returns-then-shard_of-shard : goal.returns-then-shard_of-shard
returns-then-shard_of-shard c =
    let rows = c.args.segment.now.rows in
    let told = shard_told c.args.schema.now c.args.shards c.key_at.result.now _ c.shard_of.result c.shard_of.ensures.is c.key_at.ensures in (
      λ off. never off,
      λ are.
          let here = place_of_each (λ key. shard_for c.args.schema.now c.args.shards key ≡ c.args.shard) (keys_of rows) c.loop-series.series (keys_each (λ key. shard_for c.args.schema.now c.args.shards key ≡ c.args.shard) rows c.schema-schema.ensures.rows.in_order are) (omega arith) in
          absurd (omega (arith, told, here)),
    )

pub loop-series-preserved : goal.loop-series-preserved
loop-series-preserved c =
    let told = shard_told c.args.schema.now c.args.shards c.key_at.result.now _ c.shard_of.result c.shard_of.ensures.is c.key_at.ensures in
    below_more _ _ c.loop-series.invariant (sym told ∙ omega arith)

pub returns : goal.returns
returns c =
    let rows = c.args.segment.now.rows in (
      λ yes. each_of_keys (λ key. shard_for c.args.schema.now c.args.shards key ≡ c.args.shard) rows c.schema-schema.ensures.rows.in_order (each_of_places (λ key. shard_for c.args.schema.now c.args.shards key ≡ c.args.shard) (keys_of rows) (λ k less. c.loop-series.invariant k (omega (arith, less)))),
      λ are. refl,
    )
