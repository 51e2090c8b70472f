use Rattle.std.proofs.Common.{ap, sym, ◌∙◌}
use Rattle.std.proofs.lemmas.List.{length-map}
use Rattle.tsds_index.specs.Shards.{part_of}
use Rattle.tsds_index.specs.Sound.{shard_for}
use Rattle.tsds_index.proofs.Exchanged.{more_rows, more_shards, put_by_rule, row_few, row_free, same_rows, same_shards, shard_is}
use Rattle.tsds_index.proofs.Outcomes.{on_err}
use Rattle.tsds_index.proofs.shards.put_in.Goals as goal

pub put-requires-clause-shard : goal.put-requires-clause-shard
put-requires-clause-shard c = shard_is c.args.schema.now c.args.shards.now.items c.requires.shards c.args.shard c.requires.within c.index_mut-one.result.now c.index_mut-one.ensures.value

pub put-requires-clause-free : goal.put-requires-clause-free
put-requires-clause-free c = row_free c.args.schema.now c.args.shards.now.items c.requires.shards c.args.shard c.requires.within c.index_mut-one.result.now c.index_mut-one.ensures.value c.args.row c.requires.free

pub put-requires-clause-few : goal.put-requires-clause-few
put-requires-clause-few c = row_few c.args.schema.now c.args.shards.now.items c.requires.shards c.args.shard c.requires.within c.index_mut-one.result.now c.index_mut-one.ensures.value c.args.row c.requires.few

pub returns-in_err-put-clause-shards : goal.returns-in_err-put-clause-shards
returns-in_err-put-clause-shards c = same_shards c.args.schema.now c.args.shards.now.items c.requires.shards c.args.shard c.requires.within c.index_mut-one.result.now c.index_mut-one.ensures.value c.put.new.self c.put.ensures.shard c.in_err-put.ensures.err

pub returns-in_err-put-clause-err : goal.returns-in_err-put-clause-err
returns-in_err-put-clause-err c = on_err c.from_residual.result (same_rows c.args.schema.now c.args.shards.now.items c.requires.shards c.args.shard c.requires.within c.index_mut-one.result.now c.index_mut-one.ensures.value c.put.new.self c.put.ensures.shard c.in_err-put.ensures.err)

pub returns-clause-shards : goal.returns-clause-shards
returns-clause-shards c =
    more_shards c.args.schema.now c.args.shards.now.items c.requires.shards c.args.shard c.requires.within c.index_mut-one.result.now c.index_mut-one.ensures.value c.put.new.self c.put.ensures.shard c.args.row c.in_ok-put.ensures.ok c.requires.free (ap (λ n. shard_for c.args.schema.now n c.args.row.key) (length-map c.args.shards.now.items part_of) ∙ sym c.requires.shard) c.requires.few

pub returns-clause-ok : goal.returns-clause-ok
returns-clause-ok c = more_rows c.args.schema.now c.args.shards.now.items c.requires.shards c.args.shard c.requires.within c.index_mut-one.result.now c.index_mut-one.ensures.value c.put.new.self c.put.ensures.shard c.args.row c.in_ok-put.ensures.ok c.requires.free

pub returns-clause-part : goal.returns-clause-part
returns-clause-part c = put_by_rule c.args.schema.now c.args.shards.now.items c.requires.shards c.args.shard c.requires.within c.index_mut-one.result.now c.index_mut-one.ensures.value c.put.new.self c.put.ensures.shard c.args.row c.in_ok-put.ensures.part
