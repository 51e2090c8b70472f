use Rattle.std.proofs.Common.{◌∙◌, ap, sym}
use Rattle.fold_law.specs.Rises.{merge_risings}
use Rattle.fold_law.specs.declared.counters.Rising.{Rising}
use Rattle.histogram_aggs.proofs.MergeSteps.{nothing_left}
use Rattle.histogram_aggs.proofs.RiseSteps.{rise_last, rise_step}
use Rattle.histogram_aggs.proofs.RiseTotals.{rise_over, series_told}
use Rattle.histogram_aggs.proofs.rises.rise_of.Goals as goal

pub loop-rise-preserved : goal.loop-rise-preserved
loop-rise-preserved c =
    rise_step c.loop-rise.all c.in-Some.field-0-0 c.in-Some.rise c.in_ok-behind.field-0 c.pop_first.new.self.entries c.in_ok-behind.ensures
    ∙ (ap (λ es. merge_risings (record { 0 = c.loop-rise.all }) (rise_over es)) (sym c.in-Some.ensures.removal) ∙ c.loop-rise.invariant)

pub returns : goal.returns
returns c place key xs stands =
    rise_last c.loop-rise.all (rise_over c.args.series.now.entries)
    (ap (λ es. merge_risings (record { 0 = c.loop-rise.all }) (rise_over es)) (sym (nothing_left c.loop-rise.series.entries c.pop_first.result c.in_default.is c.pop_first.ensures.variant.1)) ∙ c.loop-rise.invariant)
    ∙ ap (λ (r : Rising). r.0) (series_told place key c.args.series.now xs c.len.ensures.ordered stands)
