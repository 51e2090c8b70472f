use Rattle.std.proofs.Common.{◌≡◌, map, take}
use Rattle.index_segment.specs.Cells.{flag_in}
use Rattle.index_segment.proofs.restore.values_of_flags.Given as goal

abbrev pub invariant-loop-number : goal.invariant-loop-number
invariant-loop-number l = l.values.items ≡ map flag_in (take l.number-index l.numbers)
