use Rattle.std.proofs.Common.{◌∙◌}
use Rattle.time_text.specs.Interval.{ms_of}
use Rattle.histogram_aggs.proofs.KeySteps.{ends_of}
use Rattle.histogram_aggs.proofs.answers.ends.Goals as goal

pub returns-clause-some : goal.returns-clause-some
returns-clause-some c =
    let all = ends_of (ms_of c.args.by) c.args.buckets.now.entries c.in_ok-first.first.now c.in_ok-first.field-0-1.now c.in_ok-last.last.now c.in_ok-last.field-0-1.now c.in_ok-first.ensures.first c.in_ok-last.ensures.last in
    let first = c.copy.ensures in
    let others = c.gaps.ensures in
    all ∙ cc
