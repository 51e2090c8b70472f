use Rattle.serde_json.specs.View.{items_view}
use Rattle.search_filter.specs.Faults.{worst_with}
use Rattle.search_filter.specs.Reading.{queries_in}
use Rattle.search_filter.proofs.Grouped.{faults_step, queries_step}
use Rattle.search_filter.proofs.clauses.+read.Goals as goal

pub read_list-loop-item-preserved : goal.read_list-loop-item-preserved
read_list-loop-item-preserved t c =
    let now = c.args.reader.present in
    let fields = c.args.reader.fields.now in
    let items = c.args.items.now in
    let all = queries_in now fields (items_view items) in
    record {
      queries = queries_step now fields items c.loop-item.item-index c.item-item.result c.loop-item.queries c.put_query.new.queries all.value c.loop-item-test.true c.item-item.is c.in_ok-put_query.ensures.queries c.loop-item.invariant.queries;
      faults = faults_step now fields items c.loop-item.item-index c.item-item.result c.loop-item.faults c.put_query.new.faults (worst_with c.args.faults.now all.faults) c.loop-item-test.true c.item-item.is c.in_ok-put_query.ensures.faults c.loop-item.invariant.faults;
    }
