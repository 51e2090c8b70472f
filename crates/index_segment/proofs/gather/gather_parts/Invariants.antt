use Rattle.std.proofs.Common.{◌≡◌, map, take}
use Rattle.index_segment.specs.Cells.{parts_in}
use Rattle.index_segment.specs.Columns as columns
use Rattle.index_segment.proofs.gather.gather_parts.Given as goal

abbrev pub invariant-loop-row : goal.invariant-loop-row
invariant-loop-row l = l.parts.items ≡ map parts_in (map (columns.cell_at l.place) (take l.row-index l.rows))
