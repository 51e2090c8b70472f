use Rattle.std.proofs.Common.{◌+◌, ◌-◌, ◌/◌, arith, sym}
use Rattle.std.specs.Option.{option_copied}
use Rattle.index_segment.specs.Directory.{keys_of}
use Rattle.tsds_index.proofs.Keys.{cut_ended, cut_higher, cut_lower, keys_upwards}
use Rattle.tsds_index.proofs.series.series_behind.Goals as goal

pub loop-low-preserved-then-stands_behind : goal.loop-low-preserved-then-stands_behind
loop-low-preserved-then-stands_behind c =
    let rows = c.args.segment.now.rows in
    let middle = c.loop-low.low + (c.loop-low.high - c.loop-low.low) / 2 in
    cut_lower (option_copied c.args.before) (keys_of rows) (keys_upwards rows c.schema-schema.ensures.rows.in_order) c.loop-low.low c.loop-low.high middle c.key_at.result.now c.loop-low.invariant (omega arith) (omega arith) (sym c.key_at.ensures) c.if-stands_behind.ensures

pub loop-low-preserved : goal.loop-low-preserved
loop-low-preserved c =
    let rows = c.args.segment.now.rows in
    let middle = c.loop-low.low + (c.loop-low.high - c.loop-low.low) / 2 in
    cut_higher (option_copied c.args.before) (keys_of rows) (keys_upwards rows c.schema-schema.ensures.rows.in_order) c.loop-low.low c.loop-low.high middle c.key_at.result.now c.loop-low.invariant (omega arith) (omega arith) (sym c.key_at.ensures) c.if-stands_behind.ensures

pub returns : goal.returns
returns c = cut_ended (option_copied c.args.before) (keys_of c.args.segment.now.rows) c.loop-low.low c.loop-low.high c.loop-low.invariant (omega arith)
