use Rattle.std.proofs.Common.{◌≡◌, map, take}
use Rattle.column_block.specs.Spelling.{ordinals}
use Rattle.column_block.proofs.ordinals.all_places.Given as goal

abbrev pub invariant-loop-list : goal.invariant-loop-list
invariant-loop-list l = l.rows.items ≡ map (ordinals l.texts) (take l.list-index l.lists)
