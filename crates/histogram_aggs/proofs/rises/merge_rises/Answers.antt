use Rattle.std.proofs.Common.{◌∙◌, ap, List, ℕ, ℤ, Some}
use Rattle.std.specs.BTreeMap.{get}
use Rattle.std.specs.Cmp.Lexicographic.{slice_cmp}
use Rattle.std.specs.Ordering.{nat_cmp}
use Rattle.fold_law.specs.Rises.{join_present_rises}
use Rattle.histogram_aggs.specs.Rises.{rise_held}
use Rattle.histogram_aggs.proofs.MergeSteps.{nothing_left}
use Rattle.histogram_aggs.proofs.RiseSteps.{rises_joined, rises_left, rises_step}
use Rattle.histogram_aggs.proofs.rises.merge_rises.Goals as goal

pub loop-key-preserved : goal.loop-key-preserved
loop-key-preserved c k p =
    rises_step (get (slice_cmp nat_cmp) c.loop-key.others) (get (slice_cmp nat_cmp) c.pop_first.new.self) (get (slice_cmp nat_cmp) c.loop-key.rises) (get (slice_cmp nat_cmp) c.remove-had.new.self) (get (slice_cmp nat_cmp) c.insert.new.self)
    c.in-Some.key c.in-Some.other c.in_ok-series.series c.in-Some.ensures.value c.in-Some.ensures.updates.0 c.remove-had.ensures.updates.0 c.in_ok-insert.ensures.updates.0
    (λ q. c.in_ok-series.ensures q ∙ ap (λ o. join_present_rises (rise_held (Some c.in-Some.other) q) (rise_held o q)) c.remove-had.ensures.value) k p
    ∙ c.loop-key.invariant k p

pub returns : goal.returns
returns c place xs ys first second =
    let old = λ (k : List ℕ) (p : ℤ × ℤ). rise_held (get (slice_cmp nat_cmp) c.args.rises.now k) p in
    let more = λ (k : List ℕ) (p : ℤ × ℤ). rise_held (get (slice_cmp nat_cmp) c.args.others.now k) p in
    let new = λ (k : List ℕ) (p : ℤ × ℤ). rise_held (get (slice_cmp nat_cmp) c.loop-key.rises k) p in
    rises_joined place old more new xs ys
    (rises_left c.loop-key.others c.loop-key.rises more old (nothing_left c.loop-key.others.entries c.pop_first.result c.in_default.is c.pop_first.ensures.variant.1) c.loop-key.invariant) first second
