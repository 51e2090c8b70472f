use Rattle.std.proofs.Common.{◌∙◌, refl, rules}
use Rattle.std.specs.Prelude.{FitsSigned}
use Rattle.std.specs.Int.{w64}
use Rattle.column_block.specs.Spelling.{high, low}
use Rattle.column_block.proofs.SixLists.{map-all, map-more, none}
use Rattle.column_block.proofs.six_lists.lists_of.Goals as goal

pub loop-part-preserved : goal.loop-part-preserved
loop-part-preserved c =
    let ps = c.args.parts.now in
    let k = c.loop-part.part-index in
    let h = c.halve-halved.result in
    let min : FitsSigned w64 h.min = search rules in
    let max : FitsSigned w64 h.max = search rules in
    let sum_high : FitsSigned w64 h.sum.high = search rules in
    let sum_low : FitsSigned w64 h.sum.low = search rules in
    let count_high : FitsSigned w64 h.count.high = search rules in
    let count_low : FitsSigned w64 h.count.low = search rules in
    record {
      minima = c.in_ok-push.ensures.items ∙ map-more (λ p. p.min) ps k none h.min c.loop-part.minima.items c.loop-part-test.true c.loop-part.invariant.minima min c.halve-halved.ensures.min;
      maxima = c.in_ok-push-2.ensures.items ∙ map-more (λ p. p.max) ps k none h.max c.loop-part.maxima.items c.loop-part-test.true c.loop-part.invariant.maxima max c.halve-halved.ensures.max;
      sum_highs = c.in_ok-push-3.ensures.items ∙ map-more (λ p. high p.sum) ps k none h.sum.high c.loop-part.sum_highs.items c.loop-part-test.true c.loop-part.invariant.sum_highs sum_high c.halve-halved.ensures.sum_high;
      sum_lows = c.in_ok-push-4.ensures.items ∙ map-more (λ p. low p.sum) ps k none h.sum.low c.loop-part.sum_lows.items c.loop-part-test.true c.loop-part.invariant.sum_lows sum_low c.halve-halved.ensures.sum_low;
      count_highs = c.in_ok-push-5.ensures.items ∙ map-more (λ p. high p.count) ps k none h.count.high c.loop-part.count_highs.items c.loop-part-test.true c.loop-part.invariant.count_highs count_high c.halve-halved.ensures.count_high;
      count_lows = c.in_ok-push-6.ensures.items ∙ map-more (λ p. low p.count) ps k none h.count.low c.loop-part.count_lows.items c.loop-part-test.true c.loop-part.invariant.count_lows count_low c.halve-halved.ensures.count_low;
    }

pub returns : goal.returns
returns c =
    let ps = c.args.parts.now in
    let k = c.loop-part.part-index in
    rw (
      c.from_vec.ensures,
      c.in_ok-push-12.ensures.items,
      c.in_ok-push-11.ensures.items,
      c.in_ok-push-10.ensures.items,
      c.in_ok-push-9.ensures.items,
      c.in_ok-push-8.ensures.items,
      c.in_ok-push-7.ensures.items,
      c.in_ok-lists.ensures.items,
      c.new.ensures,
      c.new-2.ensures,
      c.new-3.ensures,
      c.new-4.ensures,
      c.new-5.ensures,
      c.new-6.ensures,
      map-all (λ p. p.min) ps k c.loop-part.minima.items c.loop-part-test.false c.loop-part.invariant.minima,
      map-all (λ p. p.max) ps k c.loop-part.maxima.items c.loop-part-test.false c.loop-part.invariant.maxima,
      map-all (λ p. high p.sum) ps k c.loop-part.sum_highs.items c.loop-part-test.false c.loop-part.invariant.sum_highs,
      map-all (λ p. low p.sum) ps k c.loop-part.sum_lows.items c.loop-part-test.false c.loop-part.invariant.sum_lows,
      map-all (λ p. high p.count) ps k c.loop-part.count_highs.items c.loop-part-test.false c.loop-part.invariant.count_highs,
      map-all (λ p. low p.count) ps k c.loop-part.count_lows.items c.loop-part-test.false c.loop-part.invariant.count_lows,
    ) refl
