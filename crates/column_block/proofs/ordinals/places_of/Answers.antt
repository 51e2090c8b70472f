use Rattle.column_block.proofs.Among.{in-item}
use Rattle.column_block.proofs.ordinals.places_of.Goals as goal

pub ordinal_of-requires-clause-held : goal.ordinal_of-requires-clause-held
ordinal_of-requires-clause-held c = c.requires.held c.text-item.result (in-item c.args.list.now c.loop-text.text-index c.text-item.result c.loop-text-test.true c.text-item.is)
