use Rattle.std.proofs.Common.{ap, arith}
use Rattle.column_block.specs.Presence.{bit}
use Rattle.column_block.proofs.Presences.{ones-more, bit-few}
use Rattle.column_block.proofs.presence.count_between.Goals as goal

pub loop-row-preserved : goal.loop-row-preserved
loop-row-preserved c = record {
  count = omega (arith, ones-more c.loop-row.row c.args.bytes.now, c.loop-row.invariant.count, c.bit_of-count.ensures, ap bit c.is_marked.ensures);
  few = omega (arith, c.loop-row.invariant.few, c.bit_of-count.ensures, bit-few c.is_marked.result);
}
