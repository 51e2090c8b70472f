use Rattle.std.proofs.Common.{map}
use Rattle.search_filter.specs.Splitting.{join_all, split_of}
use Rattle.search_filter.proofs.SplitSteps.{bool_told, joined_first, joined_more, joined_none, joined_whole, within_more, within_whole}
use Rattle.search_filter.proofs.splits.+splitting.Goals as goal

pub join_all-loop-query-init : goal.join_all-loop-query-init
join_all-loop-query-init t c = record {
  all = joined_first c.new-joined.result (map (split_of c.args.schema.now) c.args.queries.now) c.new-joined.ensures;
  within = within_whole c.new-joined.result c.new-joined.ensures;
}

pub join_all-loop-query-preserved : goal.join_all-loop-query-preserved
join_all-loop-query-preserved t c =
    let schema = c.args.schema.now in
    let queries = c.args.queries.now in
    record {
      all = joined_more schema queries c.loop-query.query-index c.query-item.result c.loop-query.joined c.join.new.self c.in-Some.split c.in_ok-split_query.field-0 (join_all (map (split_of schema) queries)) c.loop-query-test.true c.query-item.is c.in_ok-split_query.ensures c.in-Some.is c.in_ok-join-in-Some.ensures c.loop-query.invariant.all;
      within = within_more c.loop-query.joined c.join.new.self c.in-Some.split c.in_ok-join-in-Some.ensures c.loop-query.invariant.within;
    }

pub join_all-returns : goal.join_all-returns
join_all-returns t c =
    joined_whole c.args.schema.now c.args.queries.now c.loop-query.query-index c.loop-query.joined (join_all (map (split_of c.args.schema.now) c.args.queries.now)) c.loop-query-test.false c.loop-query.invariant.within c.loop-query.invariant.all

pub join_all-returns-in-None : goal.join_all-returns-in-None
join_all-returns-in-None t c = joined_none c.args.schema.now c.args.queries.now c.loop-query.query-index c.query-item.result c.loop-query.joined c.in_ok-split_query.field-0 (join_all (map (split_of c.args.schema.now) c.args.queries.now)) c.loop-query-test.true c.query-item.is c.in_ok-split_query.ensures c.in-None.is c.loop-query.invariant.all

pub split_query-returns-in_ok-must_not-in-Bool : goal.split_query-returns-in_ok-must_not-in-Bool
split_query-returns-in_ok-must_not-in-Bool t c =
    bool_told c.args.schema.now c.args.query.now _ _ _ c.as_slice-in-Bool.result.now c.as_slice-in-Bool-2.result.now c.as_slice-in-Bool-3.result.now _ c.in_ok-must-in-Bool.must c.in_ok-should-in-Bool.should c.in_ok-must_not-in-Bool.must_not c.rests_if.result c.rests_if-in-Bool.result c.split_bool.result
    c.in-Bool.is c.as_slice-in-Bool.ensures c.as_slice-in-Bool-2.ensures c.as_slice-in-Bool-3.ensures c.in_ok-must-in-Bool.ensures c.in_ok-should-in-Bool.ensures c.in_ok-must_not-in-Bool.ensures c.rests_if.ensures c.rests_if-in-Bool.ensures c.split_bool.ensures
