use Rattle.std.proofs.Common.{◌^◌, ◌<◌, length, take, map, ap, ◌∙◌, sym, subst}
use Rattle.std.specs.List.{All}
use Rattle.column_pack.specs.Block.{place}
use Rattle.column_pack.specs.Parts.{numbers_of}
use Rattle.column_pack.specs.Laws.Checks.{rising-not-plain, falling-not-plain}
use Rattle.column_pack.specs.Laws.Sounds.{plain-places}
use Rattle.column_pack.proofs.values.write_values.Goals as goal

pub plain_values-requires-clause-range : goal.plain_values-requires-clause-range
plain_values-requires-clause-range c =
    let h = c.args.header.now in
    let rs = c.args.residuals.now in
    subst (λ ns. All (λ p. p < 2 ^ 64) ns) (plain-places h.kind h.first h.offset h.factor h.width rs c.in-Plain.is ∙ ap (λ z. numbers_of z h.factor rs) (sym c.turn.ensures)) c.requires.shape.range

pub write_steps-requires-clause-kind : goal.write_steps-requires-clause-kind
write_steps-requires-clause-kind c = rising-not-plain c.args.header.now.kind c.in-Rising.is

pub write_steps-requires-in-Falling-clause-kind : goal.write_steps-requires-in-Falling-clause-kind
write_steps-requires-in-Falling-clause-kind c = falling-not-plain c.args.header.now.kind c.in-Falling.is

pub returns-in-Plain-clause-values : goal.returns-in-Plain-clause-values
returns-in-Plain-clause-values c =
    let h = c.args.header.now in
    let rs = c.args.residuals.now in
    ap (λ k. map (place k) (take (length rs) c.plain_values.new.into)) c.in-Plain.is ∙ c.plain_values.ensures.values ∙ ap (λ z. numbers_of z h.factor rs) c.turn.ensures
    ∙ sym (plain-places h.kind h.first h.offset h.factor h.width rs c.in-Plain.is)
