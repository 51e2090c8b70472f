use Rattle.std.proofs.Common.{◌≡◌, ◌+◌, map, take}
use Rattle.packed_lists.proofs.packed.move_places.Given as goal

abbrev pub invariant-loop-at : goal.invariant-loop-at
invariant-loop-at l = l.moved.items ≡ map (λ at. at + l.by) (take l.at-index l.places)
