use Rattle.std.proofs.Common.{◌++◌}
use Rattle.tsds_index.specs.Segments.{lists_in}
use Rattle.tsds_index.specs.Shards.{part_of}
use Rattle.tsds_index.specs.Spread.{newest_first}
use Rattle.tsds_index.proofs.Sealed.{newer_distinct, newer_few, newer_is, sealed_is, sealed_rows, sealed_shard}
use Rattle.tsds_index.proofs.shard.Shard.seal_from.Goals as goal

pub joined-requires-clause-distinct : goal.joined-requires-clause-distinct
joined-requires-clause-distinct c =
    let shard = c.args.self.now in
    newer_distinct c.args.first (c.rows.result.now ++ newest_first (lists_in c.split_at.result.1.now)) (part_of shard) (newer_is c.args.first c.rows.result.now shard.buffer c.split_at.result.1.now c.as_slice.result.now shard.sealed.items c.rows.ensures.is c.split_at.ensures.back c.as_slice.ensures.value) c.requires.shard.part.distinct

pub joined-requires-clause-few : goal.joined-requires-clause-few
joined-requires-clause-few c =
    let shard = c.args.self.now in
    newer_few c.args.first (c.rows.result.now ++ newest_first (lists_in c.split_at.result.1.now)) (part_of shard) (newer_is c.args.first c.rows.result.now shard.buffer c.split_at.result.1.now c.as_slice.result.now shard.sealed.items c.rows.ensures.is c.split_at.ensures.back c.as_slice.ensures.value) c.requires.shard.few

pub returns-clause-rows : goal.returns-clause-rows
returns-clause-rows c =
    let shard = c.args.self.now in
    sealed_rows c.args.schema.now shard (record { sealed = c.replace_from.new.segments; buffer = c.clear.new.self }) c.args.first c.in_ok-segment.segment (c.rows.result.now ++ newest_first (lists_in c.split_at.result.1.now)) c.requires.shard
    (newer_is c.args.first c.rows.result.now shard.buffer c.split_at.result.1.now c.as_slice.result.now shard.sealed.items c.rows.ensures.is c.split_at.ensures.back c.as_slice.ensures.value) c.in_ok-segment.ensures c.in_ok-replace_from.ensures.ok c.clear.ensures

pub returns-clause-shard : goal.returns-clause-shard
returns-clause-shard c =
    let shard = c.args.self.now in
    sealed_shard c.args.schema.now shard (record { sealed = c.replace_from.new.segments; buffer = c.clear.new.self }) c.args.first c.in_ok-segment.segment (c.rows.result.now ++ newest_first (lists_in c.split_at.result.1.now)) c.requires.shard
    (newer_is c.args.first c.rows.result.now shard.buffer c.split_at.result.1.now c.as_slice.result.now shard.sealed.items c.rows.ensures.is c.split_at.ensures.back c.as_slice.ensures.value) c.in_ok-segment.ensures c.in_ok-replace_from.ensures.ok c.clear.ensures

pub returns-clause-part : goal.returns-clause-part
returns-clause-part c =
    let shard = c.args.self.now in
    sealed_is c.args.schema.now shard (record { sealed = c.replace_from.new.segments; buffer = c.clear.new.self }) c.args.first c.in_ok-segment.segment (c.rows.result.now ++ newest_first (lists_in c.split_at.result.1.now)) c.requires.shard
    (newer_is c.args.first c.rows.result.now shard.buffer c.split_at.result.1.now c.as_slice.result.now shard.sealed.items c.rows.ensures.is c.split_at.ensures.back c.as_slice.ensures.value) c.in_ok-segment.ensures c.in_ok-replace_from.ensures.ok c.clear.ensures
