use Rattle.std.proofs.Common.{[], append-nil, ◌++◌, sym, subst}
use Rattle.histogram_aggs.specs.Seen.{seen}
use Rattle.histogram_aggs.specs.Stands.{Stands}
use Rattle.histogram_aggs.proofs.LevelSteps.{drop_past, level_step}
use Rattle.histogram_aggs.proofs.state.make_level.Goals as goal

pub loop-agg-preserved : goal.loop-agg-preserved
loop-agg-preserved c rest behind =
    subst (λ ns. Stands c.args.fields.now (seen c.args.aggs.now) (ns ++ rest) []) (sym c.in_ok-push.ensures.items)
    (level_step c.args.fields.now c.args.aggs.now c.loop-agg.nodes.items c.loop-agg.agg-index c.agg-item.result c.make_node.result c.loop-agg-test.true c.agg-item.is c.make_node.ensures c.loop-agg.invariant rest behind)

pub returns : goal.returns
returns c =
    subst (λ ns. Stands c.args.fields.now (seen c.args.aggs.now) ns []) (append-nil c.loop-agg.nodes.items)
    (c.loop-agg.invariant [] (subst (λ left. Stands c.args.fields.now (seen left) [] []) (sym (drop_past c.args.aggs.now c.loop-agg.agg-index c.loop-agg-test.false)) tt))
