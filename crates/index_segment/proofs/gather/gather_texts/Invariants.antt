use Rattle.std.proofs.Common.{◌≡◌, map, take}
use Rattle.index_segment.specs.Cells.{texts_in}
use Rattle.index_segment.specs.Columns as columns
use Rattle.index_segment.proofs.gather.gather_texts.Given as goal

abbrev pub invariant-loop-row : goal.invariant-loop-row
invariant-loop-row l = l.lists.items ≡ map texts_in (map (columns.cell_at l.place) (take l.row-index l.rows))
