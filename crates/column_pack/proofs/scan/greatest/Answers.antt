use Rattle.std.proofs.Common.{arith}
use Rattle.column_pack.proofs.Divisors.{greatest_more}
use Rattle.column_pack.proofs.scan.greatest.Goals as goal
use Rattle.column_pack.proofs.scan.greatest.Goals.{then-most-number, else-most-number}

pub loop-number-preserved : goal.loop-number-preserved
loop-number-preserved c = elim c.if-most-number.branch [
  | then-most-number w ↦ omega (arith, greatest_more c.args.numbers.now c.loop-number.number-index (omega arith))
  | else-most-number w ↦ omega (arith, greatest_more c.args.numbers.now c.loop-number.number-index (omega arith))
]
