use Rattle.std.proofs.Common.{◌↔◌, pos, drop}
use Rattle.column_block.specs.Worded.{ClimbFrom}
use Rattle.column_block.proofs.ordinals.are_places.Given as goal

abbrev pub invariant-loop-place : goal.invariant-loop-place
invariant-loop-place l = ClimbFrom l.low l.count (drop l.place-index l.row) ↔ ClimbFrom (pos 0) l.count l.row
