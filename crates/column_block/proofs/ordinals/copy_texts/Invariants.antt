use Rattle.std.proofs.Common.{◌≡◌, take}
use Rattle.column_block.specs.Worded.{texts_at}
use Rattle.column_block.proofs.ordinals.copy_texts.Given as goal

abbrev pub invariant-loop-place : goal.invariant-loop-place
invariant-loop-place l = l.list.items ≡ texts_at l.texts (take l.place-index l.places)
