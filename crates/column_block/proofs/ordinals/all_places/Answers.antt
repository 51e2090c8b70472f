use Rattle.std.proofs.Common.{◌∙◌, subst}
use Rattle.column_block.specs.Spelling.{IsIn}
use Rattle.column_block.proofs.Among.{in-joined}
use Rattle.column_block.proofs.ordinals.all_places.Goals as goal

pub places_of-requires-clause-held : goal.places_of-requires-clause-held
places_of-requires-clause-held c = λ t g.
    c.requires.held t (in-joined t c.args.lists.now c.loop-list.list-index c.list-item.result c.loop-list-test.true (subst (λ z. IsIn t z) (c.as_slice.ensures ∙ c.list-item.is) g))
