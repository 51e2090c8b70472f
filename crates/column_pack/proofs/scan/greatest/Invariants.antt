use Rattle.std.proofs.Common.{◌≡◌, take}
use Rattle.column_pack.specs.Digits.{greatest_of}
use Rattle.column_pack.proofs.scan.greatest.Given as goal

abbrev pub invariant-loop-number : goal.invariant-loop-number
invariant-loop-number l = l.most ≡ greatest_of (take l.number-index l.numbers)
