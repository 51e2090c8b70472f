use Rattle.std.proofs.Common.{◌∙◌, ap, sym, drop, ◌+◌}
use Rattle.std.specs.Prelude.{option_map}
use Rattle.histogram_aggs.specs.Reading.{field_at, least_with, listed, wrong_at, wrongs_of}
use Rattle.histogram_aggs.specs.declared.aggs.Agg.{out-Agg}
use Rattle.histogram_aggs.specs.Seen.{seen}
use Rattle.histogram_aggs.specs.SeenWrongs.{seen_wrong}
use Rattle.histogram_aggs.proofs.ReadingSteps.{least_step}
use Rattle.histogram_aggs.proofs.wrongs.+least_below.Goals as goal

pub loop-agg-preserved : goal.loop-agg-preserved
loop-agg-preserved t c =
    let all = c.args.aggs.now in
    let fields = c.args.fields.now in
    let agg = c.agg-item.result in
    let held = option_map seen_wrong c.loop-agg.least in
    let rest = wrongs_of fields (seen (drop (c.loop-agg.agg-index + 1) all)) in
    let noted = c.noted-least.ensures ∙ ap (λ w. least_with held (listed w)) (c.wrong_of.ensures ∙ ap (wrong_at (out-Agg agg).kind) c.field_at.ensures) in
    let below = c.least_below-least.ensures ∙ (ap (λ h. least_with h (wrongs_of fields (seen c.as_slice.result.now))) noted ∙ ap (λ subs. least_with (least_with held (listed (wrong_at (out-Agg agg).kind (field_at fields (out-Agg agg).field)))) (wrongs_of fields (seen subs))) c.as_slice.ensures) in
    ap (λ h. least_with h rest) below ∙ (sym (least_step fields all c.loop-agg.agg-index agg held c.loop-agg-test.true c.agg-item.is) ∙ c.loop-agg.invariant)
