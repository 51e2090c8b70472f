use Rattle.index_segment.proofs.Many.{next_fits, one_on}
use Rattle.index_segment.proofs.segment.Segment.merge_all.Goals as goal

pub merge-requires-clause-few : goal.merge-requires-clause-few
merge-requires-clause-few c = (next_fits c.args.schema.now c.args.parts.now c.loop-part.merged c.in-Some.part.now c.loop-part.left.now c.in-Some.rest.now c.in-Some.ensures.cases.0 c.loop-part.invariant).few

pub loop-part-preserved : goal.loop-part-preserved
loop-part-preserved c = one_on c.args.schema.now c.args.parts.now c.loop-part.merged c.in_ok-merged-2.merged c.in-Some.part.now c.loop-part.left.now c.in-Some.rest.now c.in-Some.ensures.cases.0 c.in_ok-merged-2.ensures c.loop-part.invariant
