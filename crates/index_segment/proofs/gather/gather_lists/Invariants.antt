use Rattle.std.proofs.Common.{◌≡◌, map, take}
use Rattle.index_segment.specs.Cells.{numbers_in}
use Rattle.index_segment.specs.Columns as columns
use Rattle.index_segment.proofs.gather.gather_lists.Given as goal

abbrev pub invariant-loop-row : goal.invariant-loop-row
invariant-loop-row l = l.lists.items ≡ map numbers_in (map (columns.cell_at l.place) (take l.row-index l.rows))
