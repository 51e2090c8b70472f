use Rattle.std.proofs.Common.{◌≡◌, []}
use Rattle.synthetic_source.specs.Sorts.{keys_after}
use Rattle.synthetic_source.proofs.ordering.set_of.Given as goal

abbrev pub invariant-loop-text : goal.invariant-loop-text
invariant-loop-text l = keys_after l.set.keys l.text-iterator.rest.items ≡ keys_after [] l.fn.texts.items
