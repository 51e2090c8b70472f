use Rattle.std.proofs.Common.{◌<◌, ◌≡◌, ◌+◌, suc, length, arith, ◌∙◌}
use Rattle.std.proofs.lemmas.List.{length-set}
use Rattle.tsds_index.proofs.Exchanged.{same_rows, same_shards, sealed_more, shard_is}
use Rattle.tsds_index.proofs.shards.seal_all.Goals as goal

pub seal-requires-clause-shard : goal.seal-requires-clause-shard
seal-requires-clause-shard c =
    let within : c.loop-place.place < length c.loop-place.shards.items = omega (arith, c.loop-place.invariant.as_many, c.loop-place.shards.ok.0, c.args.shards.now.ok.0) in
    shard_is c.args.schema.now c.loop-place.shards.items c.loop-place.invariant.shards c.loop-place.place within c.index_mut-one.result.now c.index_mut-one.ensures.value

pub loop-place-preserved : goal.loop-place-preserved
loop-place-preserved c =
    let within : c.loop-place.place < length c.loop-place.shards.items = omega (arith, c.loop-place.invariant.as_many, c.loop-place.shards.ok.0, c.args.shards.now.ok.0) in
    let next : c.loop-place.place + 1 ≡ suc c.loop-place.place = omega arith in
    record {
      shards = same_shards c.args.schema.now c.loop-place.shards.items c.loop-place.invariant.shards c.loop-place.place within c.index_mut-one.result.now c.index_mut-one.ensures.value c.seal.new.self c.seal.ensures.shard c.seal.ensures.rows;
      as_many = length-set c.loop-place.shards.items c.loop-place.place c.seal.new.self ∙ c.loop-place.invariant.as_many;
      rows = same_rows c.args.schema.now c.loop-place.shards.items c.loop-place.invariant.shards c.loop-place.place within c.index_mut-one.result.now c.index_mut-one.ensures.value c.seal.new.self c.seal.ensures.shard c.seal.ensures.rows ∙ c.loop-place.invariant.rows;
      sealed = sealed_more c.loop-place.shards.items c.loop-place.place (c.loop-place.place + 1) c.seal.new.self next within c.loop-place.invariant.sealed c.in_ok-seal.ensures.one c.in_ok-seal.ensures.empty;
    }

pub returns-in_err-seal-clause-shards : goal.returns-in_err-seal-clause-shards
returns-in_err-seal-clause-shards c =
    let within : c.loop-place.place < length c.loop-place.shards.items = omega (arith, c.loop-place.invariant.as_many, c.loop-place.shards.ok.0, c.args.shards.now.ok.0) in
    same_shards c.args.schema.now c.loop-place.shards.items c.loop-place.invariant.shards c.loop-place.place within c.index_mut-one.result.now c.index_mut-one.ensures.value c.seal.new.self c.seal.ensures.shard c.seal.ensures.rows

pub returns-in_err-seal-clause-rows : goal.returns-in_err-seal-clause-rows
returns-in_err-seal-clause-rows c =
    let within : c.loop-place.place < length c.loop-place.shards.items = omega (arith, c.loop-place.invariant.as_many, c.loop-place.shards.ok.0, c.args.shards.now.ok.0) in
    same_rows c.args.schema.now c.loop-place.shards.items c.loop-place.invariant.shards c.loop-place.place within c.index_mut-one.result.now c.index_mut-one.ensures.value c.seal.new.self c.seal.ensures.shard c.seal.ensures.rows ∙ c.loop-place.invariant.rows
