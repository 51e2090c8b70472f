use Rattle.std.proofs.Common.{◌≡◌, ◌∙◌, ap, sym, Some}
use Rattle.std.specs.Prelude.{option_map}
use Rattle.histogram_aggs.specs.Reading.{field_at}
use Rattle.histogram_aggs.proofs.StateSteps.{metric_more}
use Rattle.histogram_aggs.proofs.offers.offer_metric.Goals as goal

pub returns : goal.returns
returns c start xs =
    let fields = c.args.fields.now in
    let found : field_at fields (Some c.in-Some.at) ≡ Some c.in-Some-field_at.field.now =
    sym c.field_at.ensures ∙ ap (λ o. option_map (λ f. f.now) o) c.in-Some-field_at.is in
    rw c.in-Some.is (metric_more c.args.kind fields c.in-Some.at c.in-Some-field_at.field.now c.args.tally c.in_ok-one.one c.in_ok-both.both c.args.row.now found c.in_ok-one.ensures c.in_ok-both.ensures start xs)
