use Rattle.std.proofs.Common.{◌≡◌, ℕ, List, ◌+◌, ◌-◌, ◌*◌, ◌^◌, ◌<◌, length, drop, map, ap, ◌∙◌, sym, subst, arith}
use Rattle.std.specs.List.{All, Contains, sum}
use Rattle.column_pack.specs.Block.{start_of, walk, turned, counted, places_of, below_top}
use Rattle.column_pack.specs.Parts.{block_with, numbers_of, HasSteps, heights}
use Rattle.column_pack.specs.Span.{IsSpan}
use Rattle.column_pack.specs.Spread.{IsMeasure}
use Rattle.column_pack.specs.Laws.Checks.{least-to, kind-iff-steps, rising-not-plain, falling-not-plain}
use Rattle.column_pack.specs.Laws.Blocks.{below-width}
use Rattle.column_pack.specs.Laws.Sounds.{plain-counted, rising-counted, falling-counted, steps-counted, walked-places, counted-length, counted-below}
use Rattle.column_pack.specs.Laws.Spans.{flip-span, flip-sum}
use Rattle.column_pack.specs.Laws.Walks.{length-walk}
use Rattle.column_pack.specs.Laws.Sums.{length-numbers}
use Rattle.column_pack.proofs.summary.span_of.Goals as goal

pub plain_span-requires-clause-zero : goal.plain_span-requires-clause-zero
plain_span-requires-clause-zero c =
    let b = block_with c.args.header.now c.args.residuals.now in
    subst (λ ys. Contains ys 0) (sym c.counted_of-counted.ensures) (least-to b c.requires.sound.canonical.factor.positive c.requires.sound.canonical.least)

pub plain_span-requires-clause-spread : goal.plain_span-requires-clause-spread
plain_span-requires-clause-spread c = subst (λ ys. IsMeasure ys c.args.spread.now) (sym c.counted_of-counted.ensures) c.requires.spread

pub steps_span-requires-clause-below : goal.steps_span-requires-clause-below
steps_span-requires-clause-below c =
    let h = c.args.header.now in let rs = c.args.residuals.now in
    subst (λ ys. All (λ r. r < 2 ^ h.width) ys) (sym c.counted_of-counted.ensures) (counted-below h.kind (2 ^ h.width) rs (below-width h.width rs c.requires.sound.canonical.width))

pub steps_span-span-requires-clause-below : goal.steps_span-span-requires-clause-below
steps_span-span-requires-clause-below c =
    let h = c.args.header.now in let rs = c.args.residuals.now in
    subst (λ ys. All (λ r. r < 2 ^ h.width) ys) (sym c.counted_of-counted.ensures) (counted-below h.kind (2 ^ h.width) rs (below-width h.width rs c.requires.sound.canonical.width))

pub steps_span-requires-clause-range : goal.steps_span-requires-clause-range
steps_span-requires-clause-range c =
    let h = c.args.header.now in let rs = c.args.residuals.now in
    let ne = rising-not-plain h.kind c.in-Rising.is in
    let s : HasSteps (start_of h.kind h.first) (numbers_of h.offset h.factor (drop 1 rs)) = (kind-iff-steps h.kind h.first h.offset h.factor h.width rs ne).1 c.requires.sound.shape in
    subst (λ ys. start_of h.kind h.first + sum (numbers_of h.offset h.factor ys) < 2 ^ 64) (steps-counted h.kind rs ne ∙ sym c.counted_of-counted.ensures) s.below

pub steps_span-span-requires-clause-range : goal.steps_span-span-requires-clause-range
steps_span-span-requires-clause-range c =
    let h = c.args.header.now in let rs = c.args.residuals.now in
    let ne = falling-not-plain h.kind c.in-Falling.is in
    let s : HasSteps (start_of h.kind h.first) (numbers_of h.offset h.factor (drop 1 rs)) = (kind-iff-steps h.kind h.first h.offset h.factor h.width rs ne).1 c.requires.sound.shape in
    subst (λ ys. start_of h.kind h.first + sum (numbers_of h.offset h.factor ys) < 2 ^ 64) (steps-counted h.kind rs ne ∙ sym c.counted_of-counted.ensures) s.below

pub overflow_sub-result-in-Falling-2 : goal.overflow_sub-result-in-Falling-2
overflow_sub-result-in-Falling-2 c =
    let h = c.args.header.now in let rs = c.args.residuals.now in
    let ne = falling-not-plain h.kind c.in-Falling.is in
    let ps = walk (start_of h.kind h.first) (numbers_of h.offset h.factor c.counted_of-counted.result.now) in
    let r : All (λ p. p < 2 ^ 64) ps = subst (λ ys. All (λ p. p < 2 ^ 64) ys) (walked-places h.kind h.first h.offset h.factor h.width rs ne ∙ ap (λ ys. walk (start_of h.kind h.first) (numbers_of h.offset h.factor ys)) (sym c.counted_of-counted.ensures)) c.requires.sound.shape.range in
    omega (
      arith,
      flip-sum ps r,
      c.steps_span-span.ensures.whole,
      length-walk (start_of h.kind h.first) (numbers_of h.offset h.factor c.counted_of-counted.result.now),
      length-numbers h.offset h.factor c.counted_of-counted.result.now,
      ap (λ (ys : List ℕ). length ys) c.counted_of-counted.ensures,
      counted-length h.kind rs ne c.requires.sound.canonical.fits.some,
    )

pub returns-in-Plain : goal.returns-in-Plain
returns-in-Plain c =
    let h = c.args.header.now in let rs = c.args.residuals.now in
    subst (λ ys. IsSpan ys c.plain_span.result) (ap (numbers_of (turned h.offset) h.factor) c.counted_of-counted.ensures ∙ sym (plain-counted h.kind h.first h.offset h.factor h.width rs c.in-Plain.is)) c.plain_span.ensures

pub returns-in-Rising : goal.returns-in-Rising
returns-in-Rising c =
    let h = c.args.header.now in let rs = c.args.residuals.now in
    subst (λ ys. IsSpan ys c.steps_span.result) (ap (λ ys. walk (start_of h.kind h.first) (numbers_of h.offset h.factor ys)) c.counted_of-counted.ensures ∙ sym (rising-counted h.kind h.first h.offset h.factor h.width rs c.in-Rising.is)) c.steps_span.ensures

pub returns-in-Falling : goal.returns-in-Falling
returns-in-Falling c =
    let h = c.args.header.now in let rs = c.args.residuals.now in
    let ne = falling-not-plain h.kind c.in-Falling.is in
    let ps = walk (start_of h.kind h.first) (numbers_of h.offset h.factor c.counted_of-counted.result.now) in
    let same : walk (start_of h.kind h.first) (numbers_of h.offset h.factor (counted h.kind rs)) ≡ ps = ap (λ ys. walk (start_of h.kind h.first) (numbers_of h.offset h.factor ys)) (sym c.counted_of-counted.ensures) in
    let r : All (λ p. p < 2 ^ 64) ps = subst (λ ys. All (λ p. p < 2 ^ 64) ys) (walked-places h.kind h.first h.offset h.factor h.width rs ne ∙ same) c.requires.sound.shape.range in
    let n : length ps ≡ length rs = omega (
      arith,
      length-walk (start_of h.kind h.first) (numbers_of h.offset h.factor c.counted_of-counted.result.now),
      length-numbers h.offset h.factor c.counted_of-counted.result.now,
      ap (λ (ys : List ℕ). length ys) c.counted_of-counted.ensures,
      counted-length h.kind rs ne c.requires.sound.canonical.fits.some,
    ) in
    let s = c.steps_span-span.result in
    subst (λ m. IsSpan (heights h.kind (places_of (block_with h rs))) (record { least = 2 ^ 64 - 1 - s.greatest; greatest = 2 ^ 64 - 1 - s.least; total = m * (2 ^ 64 - 1) - s.total })) n
    (subst (λ ys. IsSpan ys (record { least = 2 ^ 64 - 1 - s.greatest; greatest = 2 ^ 64 - 1 - s.least; total = length ps * (2 ^ 64 - 1) - s.total })) (ap (map below_top) (sym same) ∙ sym (falling-counted h.kind h.first h.offset h.factor h.width rs c.in-Falling.is))
    (flip-span ps s r c.steps_span-span.ensures))
