use Rattle.std.proofs.Common.{◌<◌, ◌+◌, ◌-◌, ◌/◌, arith, get_or, length}
use Rattle.std.specs.Option.{option_copied}
use Rattle.index_segment.specs.Directory.{row_keys}
use Rattle.tsds_index.proofs.Keys.{cut_ended, cut_higher, cut_lower, key_there, row_keys_length, rows_upwards}
use Rattle.tsds_index.proofs.series.place_behind.Goals as goal

pub loop-low-preserved-then-stands_behind : goal.loop-low-preserved-then-stands_behind
loop-low-preserved-then-stands_behind c =
    let rows = c.args.rows.now in
    let middle = c.loop-low.low + (c.loop-low.high - c.loop-low.low) / 2 in
    let there : middle < length rows = omega (arith, c.loop-low.invariant.within, row_keys_length rows) in
    cut_lower (option_copied c.args.before) (row_keys rows) (rows_upwards rows c.requires) c.loop-low.low c.loop-low.high middle (get_or rows middle c.index-rows-middle.result).key c.loop-low.invariant (omega arith) (omega arith) (key_there rows middle c.index-rows-middle.result there) c.if-stands_behind.ensures

pub loop-low-preserved : goal.loop-low-preserved
loop-low-preserved c =
    let rows = c.args.rows.now in
    let middle = c.loop-low.low + (c.loop-low.high - c.loop-low.low) / 2 in
    let there : middle < length rows = omega (arith, c.loop-low.invariant.within, row_keys_length rows) in
    cut_higher (option_copied c.args.before) (row_keys rows) (rows_upwards rows c.requires) c.loop-low.low c.loop-low.high middle (get_or rows middle c.index-rows-middle.result).key c.loop-low.invariant (omega arith) (omega arith) (key_there rows middle c.index-rows-middle.result there) c.if-stands_behind.ensures

pub returns : goal.returns
returns c = cut_ended (option_copied c.args.before) (row_keys c.args.rows.now) c.loop-low.low c.loop-low.high c.loop-low.invariant (omega arith)
