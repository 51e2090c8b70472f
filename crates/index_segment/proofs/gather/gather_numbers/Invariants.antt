use Rattle.std.proofs.Common.{◌≡◌, map, take}
use Rattle.index_segment.specs.Cells.{number_of}
use Rattle.index_segment.specs.Columns as columns
use Rattle.index_segment.proofs.gather.gather_numbers.Given as goal

abbrev pub invariant-loop-row : goal.invariant-loop-row
invariant-loop-row l = l.numbers.items ≡ map (number_of l.number) (map (columns.cell_at l.place) (take l.row-index l.rows))
