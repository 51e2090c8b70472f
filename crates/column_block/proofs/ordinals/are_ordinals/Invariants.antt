use Rattle.std.proofs.Common.{◌≡◌, pos, length, take}
use Rattle.row_cells.specs.Each.{Each}
use Rattle.packed_lists.specs.Lists.{joined}
use Rattle.column_block.specs.Worded.{AreMarked, ClimbFrom}
use Rattle.column_block.proofs.ordinals.are_ordinals.Given as goal

abbrev pub invariant-loop-row : goal.invariant-loop-row
invariant-loop-row l = record {
  long : length l.seen.items ≡ l.count;
  climb : Each (ClimbFrom (pos 0) (pos l.count)) (take l.row-index l.rows);
  marked : AreMarked (joined (take l.row-index l.rows)) l.seen.items;
}
