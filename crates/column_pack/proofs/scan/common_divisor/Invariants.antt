use Rattle.std.proofs.Common.{take}
use Rattle.column_pack.specs.Factor.{IsDivisor}
use Rattle.column_pack.proofs.scan.common_divisor.Given as goal

abbrev pub invariant-loop-number : goal.invariant-loop-number
invariant-loop-number l = IsDivisor l.divisor (take l.number-index l.numbers)
