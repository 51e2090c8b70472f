-- What is told of all aggregations, where there was room for as many buckets as an answer may have.
use Rattle.std.proofs.Common.{◌≡◌, ◌≤◌, ◌++◌, ℕ, List, [], refl, ap, ◌∙◌, sym, arith}
use Rattle.std.specs.Prelude.{Ok}
use Rattle.reply_json.specs.declared.out.Member.{Member}
use Rattle.reply_json.specs.declared.out.Out.{Out, Object}
use Rattle.histogram_aggs.specs.declared.errors.AggError.{AggError}
use Rattle.histogram_aggs.specs.declared.errors.AggError.TheVariants.{Shape, WrongField, TooManyBuckets, NoMemory}
use Rattle.histogram_aggs.specs.Answers.{Results, within_limit}
use Rattle.histogram_aggs.specs.Limits.{most_buckets}
use Rattle.histogram_aggs.specs.Told.{AreTold, IsRefusedBy, IsStop}
use Rattle.histogram_aggs.proofs.OrderSteps.{gt_test, le_test}

pub all_told : (r : Results) (left : ℕ) (none members : List Member) (out : Out) → none ≡ [] → AreTold r most_buckets left none members → out ≡ Object members → within_limit r ≡ Ok out
all_told r left none members out empty told made =
    let room : r.buckets ≤ most_buckets = omega (arith, told.1) in
    let same : members ≡ r.members = told.0 ∙ ap (λ ms. ms ++ r.members) empty in
    rw (le_test r.buckets most_buckets room) (ap Ok (sym (made ∙ ap Object same)))

pub all_stopped : (r : Results) (e : AggError) → IsStop most_buckets r.buckets e → IsRefusedBy (within_limit r) e
all_stopped r Shape stop = stop
all_stopped r (WrongField path kind) stop = stop
all_stopped r TooManyBuckets stop = rw (gt_test r.buckets most_buckets stop) refl
all_stopped r NoMemory stop = tt
