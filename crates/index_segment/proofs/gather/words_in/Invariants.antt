use Rattle.std.proofs.Common.{◌≡◌, map, take}
use Rattle.index_segment.specs.Cells.{text_in}
use Rattle.index_segment.proofs.gather.words_in.Given as goal

abbrev pub invariant-loop-value : goal.invariant-loop-value
invariant-loop-value l = l.texts.items ≡ map text_in (take l.value-index l.values)
