use Rattle.packed_lists.specs.Found.{AreFound}
use Rattle.packed_lists.proofs.blocks.find_numbers.Given as goal

abbrev pub invariant-loop-left : goal.invariant-loop-left
invariant-loop-left l = AreFound l.bytes l.from l.end l.places.items l.count l.left

abbrev pub decreases-loop-left : goal.decreases-loop-left
decreases-loop-left l = l.left
