use Rattle.std.proofs.Common.{◌≡◌, drop}
use Rattle.column_pack.specs.Digits.{number}
use Rattle.column_pack.proofs.bits.last_word.Given as goal

abbrev pub invariant-loop-i : goal.invariant-loop-i
invariant-loop-i l = l.word ≡ number 256 (drop l.i l.bytes)
