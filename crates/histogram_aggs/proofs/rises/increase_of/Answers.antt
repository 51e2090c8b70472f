use Rattle.std.proofs.Common.{rules, ◌≡◌, List, ℕ, subst, arith, to_z, of_z}
use Rattle.std.specs.Prelude.{◌+ℤ◌}
use Rattle.std.specs.Int.{w128}
use Rattle.std.proofs.lemmas.Int.{ints}
use Rattle.histogram_aggs.specs.Metrics.{increase_in}
use Rattle.histogram_aggs.proofs.MergeSteps.{nothing_left}
use Rattle.histogram_aggs.proofs.RiseSteps.{AreFoundIn, Series, all_found, sum_last, sum_over, sum_step}
use Rattle.histogram_aggs.proofs.rises.increase_of.Goals as goal

pub loop-series-init : goal.loop-series-init
loop-series-init c = (all_found c.args.rises.now c.len.ensures.ordered, λ place xs stands. (let all = sum_over place xs c.args.rises.now.entries in omega (arith, ints)))

pub loop-series-preserved : goal.loop-series-preserved
loop-series-preserved c =
    let grown : to_z w128 (of_z w128 c.in-Some-checked_add.more) ≡ to_z w128 c.loop-series.sum-bits +ℤ increase_in c.in_ok-rise_of.field-0 = search rules in (
      (subst (λ (es : List (List ℕ × Series)). AreFoundIn c.args.rises.now es) c.in-Some.ensures.removal c.loop-series.invariant.0).1,
      λ place xs stands. sum_step place xs c.args.rises.now c.loop-series.rises.entries c.pop_first.new.self.entries c.in-Some.field-0-0 c.in-Some.series c.in_ok-rise_of.field-0 (to_z w128 c.loop-series.sum-bits)
          (to_z w128 (of_z w128 c.in-Some-checked_add.more)) (sum_over place xs c.args.rises.now.entries) c.in-Some.ensures.removal c.loop-series.invariant.0 stands (c.in_ok-rise_of.ensures place c.in-Some.field-0-0 xs) grown (c.loop-series.invariant.1 place xs stands),
    )

pub returns : goal.returns
returns c place xs stands =
    sum_last place xs c.args.rises.now c.loop-series.rises.entries (to_z w128 c.loop-series.sum-bits) c.len.ensures.ordered stands
    (nothing_left c.loop-series.rises.entries c.pop_first.result c.in_default.is c.pop_first.ensures.variant.1) (c.loop-series.invariant.1 place xs stands)
