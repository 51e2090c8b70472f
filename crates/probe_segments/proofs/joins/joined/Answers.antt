use Rattle.probe_segments.specs.Few.{three_few}
use Rattle.probe_segments.proofs.joins.joined.Goals as goal

pub merge_all-requires-clause-few : goal.merge_all-requires-clause-few
merge_all-requires-clause-few c = three_few c.args.first.rows c.args.second.rows c.args.third.rows (c.are_few.ensures c.if-not-are_few.false)
