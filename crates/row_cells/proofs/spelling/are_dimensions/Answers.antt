use Rattle.std.proofs.Common.{rules, sym, ◌∙◌, length, ◌<◌, subst}
use Rattle.row_cells.specs.Dimensions.{IsBefore, SpellDimensionsAfter}
use Rattle.row_cells.proofs.Spelled.{spelled_begins, spelled_after, spelled_before}
use Rattle.row_cells.proofs.spelling.are_dimensions.Goals as goal

pub returns-in_default : goal.returns-in_default
returns-in_default c =
    let some : 0 < length c.loop-below.rest.now = search rules in
    (λ f. cc, λ spells. absurd (spelled_begins c.loop-below.below.now c.loop-below.rest.now some (c.in_default.ensures.none (search rules)) (c.loop-below.invariant.0 spells)))

pub returns-in_default-bytes_order : goal.returns-in_default-bytes_order
returns-in_default-bytes_order c =
    let read = c.in-Some.ensures.some in (
      λ f. cc,
      λ spells.
          let after = spelled_after c.loop-below.below.now c.loop-below.rest.now c.in-Some.entry.rest.now read.0 read.1 read.3 (c.loop-below.invariant.0 spells) in
          absurd (c.in_default-bytes_order.not-Less (c.bytes_order.ensures ∙ subst (λ p. IsBefore c.loop-below.below.now p) read.2 after.0)),
    )

pub loop-below-preserved : goal.loop-below-preserved
loop-below-preserved c =
    let read = c.in-Some.ensures.some in
    let before : IsBefore c.loop-below.below.now read.0.path = subst (λ p. IsBefore c.loop-below.below.now p) (sym read.2) (sym c.bytes_order.ensures ∙ c.in-Less.is) in (
      λ spells.
          let after = spelled_after c.loop-below.below.now c.loop-below.rest.now c.in-Some.entry.rest.now read.0 read.1 read.3 (c.loop-below.invariant.0 spells) in
          subst (λ p. SpellDimensionsAfter p c.in-Some.entry.rest.now) read.2 after.1,
      λ spells. c.loop-below.invariant.1 (spelled_before c.loop-below.below.now c.loop-below.rest.now c.in-Some.entry.rest.now read.0 read.1 read.3 before (subst (λ p. SpellDimensionsAfter p c.in-Some.entry.rest.now) (sym read.2) spells)),
    )
