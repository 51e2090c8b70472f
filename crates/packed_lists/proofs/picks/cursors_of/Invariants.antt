use Rattle.std.proofs.Common.{◌≡◌, take}
use Rattle.packed_lists.proofs.picks.cursors_of.Given as goal

abbrev pub invariant-loop-list : goal.invariant-loop-list
invariant-loop-list l = l.cursors.items ≡ take l.list-index l.lists
