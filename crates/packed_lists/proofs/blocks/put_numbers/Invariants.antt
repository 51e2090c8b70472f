use Rattle.packed_lists.specs.Found.{ArePut}
use Rattle.packed_lists.proofs.blocks.put_numbers.Given as goal

abbrev pub invariant-loop-block : goal.invariant-loop-block
invariant-loop-block l = ArePut l.fn.into.items l.into.items l.places.items l.block l.values
