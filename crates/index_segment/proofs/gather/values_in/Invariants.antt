use Rattle.std.proofs.Common.{◌≡◌, map, take}
use Rattle.index_segment.specs.Cells.{number_in}
use Rattle.index_segment.proofs.gather.values_in.Given as goal

abbrev pub invariant-loop-value : goal.invariant-loop-value
invariant-loop-value l = l.numbers.items ≡ map number_in (take l.value-index l.values)
