use Rattle.search_filter.proofs.BoolQueries.{by_enough}
use Rattle.search_filter.proofs.matching.+matching.Goals as goal

pub matches-returns-else-does_any_match : goal.matches-returns-else-does_any_match
matches-returns-else-does_any_match t c =
    by_enough c.args.schema.now c.args.row.now c.args.query.now c.in-Bool.must c.in-Bool.should c.in-Bool.must_not _ _ _ c.in-Bool.least c.do_all_match.result c.does_any_match.result c.do_enough_match.result c.in-Bool.is
    c.as_slice-in-Bool.ensures c.as_slice-in-Bool-3.ensures c.as_slice-in-Bool-2.ensures c.do_all_match.ensures c.if-not-do_all_match.false c.does_any_match.ensures c.if-does_any_match.false c.do_enough_match.ensures
