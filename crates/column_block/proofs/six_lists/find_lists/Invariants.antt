use Rattle.column_block.specs.HeldParts.{AreListsAhead}
use Rattle.column_block.proofs.six_lists.find_lists.Given as goal

abbrev pub invariant-loop : goal.invariant-loop
invariant-loop l = AreListsAhead l.bytes l.from l.end l.places.items l.count l.counter l.lists
