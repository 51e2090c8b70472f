use Rattle.std.proofs.Common.{subst}
use Rattle.std.specs.Prelude.{◌↔◌, IsTrue}
use Rattle.std.proofs.lemmas.List.{take_rest}
use Rattle.column_pack.specs.Block.{start_of}
use Rattle.column_pack.specs.Parts.{numbers_of, HasSteps}
use Rattle.column_pack.specs.Laws.Checks.{kind-iff-plain, kind-iff-steps, iff-trans, rising-not-plain, falling-not-plain}
use Rattle.column_pack.proofs.sound.has_kind.Goals as goal

pub returns-in-Plain : goal.returns-in-Plain
returns-in-Plain c = let h = c.args.header.now in iff-trans c.has_plain_kind.ensures (kind-iff-plain h.kind h.first h.offset h.factor h.width c.args.residuals.now c.in-Plain.is)

pub returns-in-Rising : goal.returns-in-Rising
returns-in-Rising c =
    let h = c.args.header.now in
    let rs = c.args.residuals.now in
    iff-trans (subst (λ ys. IsTrue c.has_steps.result ↔ HasSteps (start_of h.kind h.first) (numbers_of h.offset h.factor ys)) (take_rest rs 1) c.has_steps.ensures)
    (kind-iff-steps h.kind h.first h.offset h.factor h.width rs (rising-not-plain h.kind c.in-Rising.is))

pub returns-in-Falling : goal.returns-in-Falling
returns-in-Falling c =
    let h = c.args.header.now in
    let rs = c.args.residuals.now in
    iff-trans (subst (λ ys. IsTrue c.has_steps-in-Falling.result ↔ HasSteps (start_of h.kind h.first) (numbers_of h.offset h.factor ys)) (take_rest rs 1) c.has_steps-in-Falling.ensures)
    (kind-iff-steps h.kind h.first h.offset h.factor h.width rs (falling-not-plain h.kind c.in-Falling.is))
