use Rattle.std.proofs.Common.{◌≡◌, ℕ, List, ◌+◌, ◌-◌, ◌<◌, length, take, drop, map, arith, ap, ◌∙◌, sym, subst}
use Rattle.std.specs.List.{All}
use Rattle.std.specs.Prelude.{FitsSigned}
use Rattle.std.specs.Int.{w64}
use Rattle.std.proofs.lemmas.List.{take_rest, length-drop}
use Rattle.column_pack.specs.Block.{place, walk, start_of}
use Rattle.column_pack.specs.Parts.{numbers_of, HasSteps}
use Rattle.column_pack.specs.Laws.Checks.{kind-iff-steps}
use Rattle.column_pack.specs.Laws.Sounds.{steps-places}
use Rattle.column_pack.proofs.values.write_steps.Goals as goal

pub walk_values-requires-clause-range : goal.walk_values-requires-clause-range
walk_values-requires-clause-range c =
    let h = c.args.header.now in
    let rs = c.args.residuals.now in
    let s : HasSteps (start_of h.kind h.first) (numbers_of h.offset h.factor (drop 1 rs)) = (kind-iff-steps h.kind h.first h.offset h.factor h.width rs c.requires.kind).1 c.requires.sound.shape in
    rw (take_rest rs 1, c.start_at-start.ensures) s.below

-- as many values as residuals
counts : (rs : List ℕ) → 0 < length rs → length (take (length rs - 1) (drop 1 rs)) + 1 ≡ length rs
counts rs h = rw (take_rest rs 1) (omega (arith, length-drop 1 rs))

pub returns-clause-values : goal.returns-clause-values
returns-clause-values c =
    let h = c.args.header.now in
    let rs = c.args.residuals.now in
    ap (λ n. map (place h.kind) (take n c.walk_values.new.into)) (sym (counts rs c.requires.sound.canonical.fits.some))
    ∙ c.walk_values.ensures.values
    ∙ ap (λ ys. walk c.start_at-start.result (numbers_of h.offset h.factor ys)) (take_rest rs 1)
    ∙ ap (λ z. walk z (numbers_of h.offset h.factor (drop 1 rs))) c.start_at-start.ensures
    ∙ sym (steps-places h.kind h.first h.offset h.factor h.width rs c.requires.kind)

pub returns-clause-signed : goal.returns-clause-signed
returns-clause-signed c = subst (λ n. All (FitsSigned w64) (take n c.walk_values.new.into)) (counts c.args.residuals.now c.requires.sound.canonical.fits.some) c.walk_values.ensures.signed

pub returns-clause-rest : goal.returns-clause-rest
returns-clause-rest c = subst (λ n. drop n c.walk_values.new.into ≡ drop n c.args.into.now) (counts c.args.residuals.now c.requires.sound.canonical.fits.some) c.walk_values.ensures.rest
