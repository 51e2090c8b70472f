use Rattle.std.proofs.Common.{arith}
use Rattle.column_pack.specs.Block.{below_top}
use Rattle.column_pack.specs.Laws.Reduced.{mapped-at, mapped-more}
use Rattle.column_pack.proofs.places.flip.Goals as goal

pub loop-i-preserved : goal.loop-i-preserved
loop-i-preserved c =
    let xs = c.args.places.now in
    let i = c.loop-i.i in
    rw (c.loop-i.invariant, mapped-at below_top xs i (omega arith)) (mapped-more below_top xs i (omega arith))
