use Rattle.std.proofs.Common.{◌+◌, ◌*◌, length, subst, arith}
use Rattle.column_pack.specs.Block.{walk}
use Rattle.column_pack.specs.Parts.{numbers_of}
use Rattle.column_pack.specs.Span.{IsSpan}
use Rattle.column_pack.specs.Laws.Spans.{steps-span, rise-is}
use Rattle.column_pack.proofs.summary.steps_span.Goals as goal

pub overflow_mul-rise-2 : goal.overflow_mul-rise-2
overflow_mul-rise-2 c = let h = c.args.header.now in omega (arith, c.requires.range, rise-is h.offset h.factor c.args.spread.now.total c.args.residuals.now c.requires.spread.whole)

pub overflow_add-rise : goal.overflow_add-rise
overflow_add-rise c = let h = c.args.header.now in omega (arith, c.requires.range, rise-is h.offset h.factor c.args.spread.now.total c.args.residuals.now c.requires.spread.whole)

pub overflow_add-result : goal.overflow_add-result
overflow_add-result c = let h = c.args.header.now in omega (arith, c.requires.range, c.start_at-start.ensures, rise-is h.offset h.factor c.args.spread.now.total c.args.residuals.now c.requires.spread.whole)

pub overflow_cast-result-2 : goal.overflow_cast-result-2
overflow_cast-result-2 c = let h = c.args.header.now in omega (arith, c.requires.range, c.start_at-start.ensures, rise-is h.offset h.factor c.args.spread.now.total c.args.residuals.now c.requires.spread.whole)

pub returns : goal.returns
returns c =
    let h = c.args.header.now in let s = c.args.spread.now in let rs = c.args.residuals.now in
    subst (λ z. IsSpan (walk z (numbers_of h.offset h.factor rs)) (record { least = c.start_at-start.result; greatest = c.start_at-start.result + (h.offset * length rs + h.factor * s.total); total = c.walk_total.result })) c.start_at-start.ensures
    (steps-span c.start_at-start.result h.offset h.factor s.total c.walk_total.result rs c.requires.spread.whole c.walk_total.ensures)
