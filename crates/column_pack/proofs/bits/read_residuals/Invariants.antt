use Rattle.std.proofs.Common.{◌≡◌, ◌^◌, take}
use Rattle.column_pack.specs.Digits.{number, digits}
use Rattle.column_pack.proofs.bits.read_residuals.Given as goal

abbrev pub invariant-loop-i : goal.invariant-loop-i
invariant-loop-i l = take l.i l.residuals ≡ digits (2 ^ l.width) l.i (number (2 ^ 64) l.words)
