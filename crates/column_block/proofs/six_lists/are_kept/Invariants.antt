use Rattle.std.proofs.Common.{◌*◌, List, take}
use Rattle.fold_law.specs.declared.measures.Parts.{Parts}
use Rattle.packed_lists.specs.Decoded.{ArePlaced}
use Rattle.row_cells.specs.Each.{Each}
use Rattle.column_block.specs.Rules.{AreParts}
use Rattle.column_block.specs.Spelling.{six_lists}
use Rattle.column_block.proofs.six_lists.are_kept.Given as goal

abbrev pub invariant-loop-block : goal.invariant-loop-block
invariant-loop-block l = (ps : List Parts) → ArePlaced l.bytes l.places (six_lists ps) → Each AreParts (take (128 * l.block) ps)
