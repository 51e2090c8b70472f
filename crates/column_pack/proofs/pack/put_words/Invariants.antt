use Rattle.std.proofs.Common.{◌≡◌, ◌+◌, ◌*◌, ◌^◌, ◌++◌, take}
use Rattle.column_pack.specs.Digits.{number, digits}
use Rattle.column_pack.proofs.pack.put_words.Given as goal

abbrev pub invariant-loop-i : goal.invariant-loop-i
invariant-loop-i l = take (27 + 8 * l.i) l.bytes ≡ take 27 l.fn.bytes ++ digits 256 (8 * l.i) (number (2 ^ 64) (take l.i l.words))
