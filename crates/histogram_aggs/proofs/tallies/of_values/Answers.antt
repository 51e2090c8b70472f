use Rattle.std.proofs.Common.{◌∙◌, ap, sym, map, take}
use Rattle.search_filter.specs.Values.{number_of}
use Rattle.histogram_aggs.specs.Tallies.{both_tallies, of_numbers}
use Rattle.histogram_aggs.specs.TallyLaws.{values_step}
use Rattle.histogram_aggs.proofs.tallies.of_values.Goals as goal

pub loop-value-preserved : goal.loop-value-preserved
loop-value-preserved c =
    let before = of_numbers c.args.kind (map number_of (take c.loop-value.value-index c.args.values.now)) in
    c.in_ok-tally.ensures
    ∙ (ap (λ t. both_tallies t c.of_value.result) c.loop-value.invariant
    ∙ (ap (λ t. both_tallies before t) c.of_value.ensures
    ∙ sym (values_step c.args.kind c.args.values.now c.loop-value.value-index c.value-item.result c.loop-value-test.true c.value-item.is)))
