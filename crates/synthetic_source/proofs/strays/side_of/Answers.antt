use Rattle.std.proofs.Common.{◌∙◌}
use Rattle.std.specs.declared.cmp.Ordering.TheVariants.{Less, Equal, Greater}
use Rattle.synthetic_source.proofs.Near.{side_front}
use Rattle.synthetic_source.proofs.strays.side_of.Goals as goal

pub returns-in-Less : goal.returns-in-Less
returns-in-Less c = side_front c.args.path.now c.args.above.now _ _ Less c.min.ensures c.split_at.ensures.front c.in-Less.ensures

pub returns-in-Equal : goal.returns-in-Equal
returns-in-Equal c = c.side_of_rest.ensures ∙ side_front c.args.path.now c.args.above.now _ _ Equal c.min.ensures c.split_at.ensures.front c.in-Equal.ensures

pub returns-in-Greater : goal.returns-in-Greater
returns-in-Greater c = side_front c.args.path.now c.args.above.now _ _ Greater c.min.ensures c.split_at.ensures.front c.in-Greater.ensures
