use Rattle.std.proofs.Common.{◌≡◌, take}
use Rattle.column_block.specs.Spelling.{ordinals}
use Rattle.column_block.proofs.ordinals.places_of.Given as goal

abbrev pub invariant-loop-text : goal.invariant-loop-text
invariant-loop-text l = l.places.items ≡ ordinals l.texts (take l.text-index l.list)
