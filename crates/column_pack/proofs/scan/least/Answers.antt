use Rattle.std.proofs.Common.{arith}
use Rattle.std.proofs.lemmas.List.{take_all}
use Rattle.std.proofs.lemmas.List.Elements.{Contains-get_or}
use Rattle.column_pack.proofs.Divisors.{below_more}
use Rattle.column_pack.proofs.scan.least.Goals as goal
use Rattle.column_pack.proofs.scan.least.Goals.{then-number-least, else-number-least}

pub loop-number-preserved : goal.loop-number-preserved
loop-number-preserved c =
    let xs = c.args.numbers.now in
    let i = c.loop-number.number-index in
    elim c.if-number-least.branch [
      | then-number-least w ↦ record {
        below = below_more xs i c.loop-number.least c.if-number-least.least (omega arith) c.loop-number.invariant.below (omega arith) (omega arith);
        among = rw w.least-is (Contains-get_or xs i 0 (omega arith));
      }
      | else-number-least w ↦ record {
        below = below_more xs i c.loop-number.least c.if-number-least.least (omega arith) c.loop-number.invariant.below (omega arith) (omega arith);
        among = rw w.least-is c.loop-number.invariant.among;
      }
    ]

pub returns-clause-below : goal.returns-clause-below
returns-clause-below c = rw (take_all c.loop-number.number-index c.args.numbers.now (omega arith)) at c.loop-number.invariant.below
