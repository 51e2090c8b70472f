use Rattle.std.specs.Prelude.{◌≡◌, None}
use Rattle.std.proofs.Common.{refl, ◌∙◌, ap, subst, sym, to_z, of_z, w64}
use Rattle.std.proofs.lemmas.Int.{to_z-of_z}
use Rattle.time_text.specs.Instant.{IsInstant}
use Rattle.stream_catalog.specs.Beside.{IsHeldCatalog, catalog_of}
use Rattle.stream_catalog.specs.FactChanges.{facts_rolled_over}
use Rattle.stream_catalog.specs.Plain.{facts_of}
use Rattle.stream_catalog.specs.Streams.{IsCause, rolled_names, rolled_over, rollover_refusal}
use Rattle.stream_catalog.proofs.HeldChangeLemmas.{facts_same}
use Rattle.stream_catalog.proofs.HeldGoneLemmas.{rows_undone}
use Rattle.stream_catalog.proofs.HeldLemmas.{facts_sound}
use Rattle.stream_catalog.proofs.HeldRollLemmas.{next_rows_free, rolled_held, rolled_told}
use Rattle.stream_catalog.proofs.catalog.Catalog.rollover.Goals as goal

pub next_rows-requires-clause-sound : goal.next_rows-requires-clause-sound
next_rows-requires-clause-sound c = facts_sound c.self.inside.facts c.self.inside.rows c.self.invariant

pub roll_over-requires-clause-sound : goal.roll_over-requires-clause-sound
roll_over-requires-clause-sound c = facts_sound c.self.inside.facts c.self.inside.rows c.self.invariant

pub returns-in-Err-clause-refused : goal.returns-in-Err-clause-refused
returns-in-Err-clause-refused c =
    subst (λ k. IsCause (rollover_refusal (facts_of c.args.self.now) c.args.stream.now k) c.in-Err.error) (to_z-of_z w64 c.args.now c.ranges.now)
    (subst (λ f. IsCause (rollover_refusal f c.args.stream.now (to_z w64 (of_z w64 c.args.now))) c.in-Err.error) (facts_same c.self.inside.facts c.self.inside.rows c.args.self.now c.self.invariant c.self.view_is) c.in-Err.ensures.refused)

pub invariant_of-self-in-Ok-roll_over : goal.invariant_of-self-in-Ok-roll_over
invariant_of-self-in-Ok-roll_over c =
    let at = to_z w64 (of_z w64 c.args.now) in
    let none = next_rows_free c.self.inside.facts c.self.inside.rows c.args.stream.now c.in-Ok.rows.name at c.in-Ok.rows c.self.invariant c.in-Ok.ensures.accepted c.in-Ok.ensures.next refl in
    subst (λ g. IsHeldCatalog g c.put.new.self) (sym c.in-Ok-roll_over.ensures.ok)
    (subst (λ ys. IsHeldCatalog (facts_rolled_over c.self.inside.facts c.args.stream.now at) ys) (sym (c.in_ok-put.ensures.fresh none))
    (rolled_held c.self.inside.facts c.self.inside.rows c.in-Ok.rows c.args.stream.now at c.self.invariant c.in-Ok.ensures.next (subst IsInstant (sym (to_z-of_z w64 c.args.now c.ranges.now)) c.requires) c.in-Ok.ensures.accepted))

pub returns-in-Ok-roll_over-clause-accepted : goal.returns-in-Ok-roll_over-clause-accepted
returns-in-Ok-roll_over-clause-accepted c =
    subst (λ k. rollover_refusal (facts_of c.args.self.now) c.args.stream.now k ≡ None) (to_z-of_z w64 c.args.now c.ranges.now)
    (subst (λ f. rollover_refusal f c.args.stream.now (to_z w64 (of_z w64 c.args.now)) ≡ None) (facts_same c.self.inside.facts c.self.inside.rows c.args.self.now c.self.invariant c.self.view_is) c.in-Ok.ensures.accepted)

pub returns-in-Ok-roll_over-clause-ok : goal.returns-in-Ok-roll_over-clause-ok
returns-in-Ok-roll_over-clause-ok c =
    let at = to_z w64 (of_z w64 c.args.now) in
    let none = next_rows_free c.self.inside.facts c.self.inside.rows c.args.stream.now c.in-Ok.rows.name at c.in-Ok.rows c.self.invariant c.in-Ok.ensures.accepted c.in-Ok.ensures.next refl in
    rolled_told c.self.inside.facts c.self.inside.rows c.in-Ok.rows c.args.stream.now at c.self.invariant c.in-Ok.ensures.next c.roll_over.new.self c.put.new.self c.args.self.now c.self.view_is c.in-Ok-roll_over.ensures.ok
    (c.in_ok-put.ensures.fresh none) ∙ ap (rolled_over c.args.self.now c.args.stream.now) (to_z-of_z w64 c.args.now c.ranges.now)

pub returns-in-Ok-roll_over-clause-names : goal.returns-in-Ok-roll_over-clause-names
returns-in-Ok-roll_over-clause-names c =
    let at = to_z w64 (of_z w64 c.args.now) in
    c.in-Ok-roll_over.ensures.names
    ∙ (ap (λ f. rolled_names f c.args.stream.now at) (facts_same c.self.inside.facts c.self.inside.rows c.args.self.now c.self.invariant c.self.view_is)
    ∙ ap (rolled_names (facts_of c.args.self.now) c.args.stream.now) (to_z-of_z w64 c.args.now c.ranges.now))

pub invariant_of-self-in-Err-roll_over : goal.invariant_of-self-in-Err-roll_over
invariant_of-self-in-Err-roll_over c =
    let none = next_rows_free c.self.inside.facts c.self.inside.rows c.args.stream.now c.in-Ok.rows.name (to_z w64 (of_z w64 c.args.now)) c.in-Ok.rows c.self.invariant c.in-Ok.ensures.accepted c.in-Ok.ensures.next refl in
    let undone = rows_undone c.in-Ok.rows c.self.inside.rows c.put.new.self c.take_out.new.self c.as_bytes.result.now none (c.as_bytes.ensures ∙ c.in_ok-next.ensures) (c.in_ok-put.ensures.fresh none) c.take_out.ensures.left in
    subst (λ g. IsHeldCatalog g c.take_out.new.self) (sym c.in-Err-roll_over.ensures.same) (subst (λ ys. IsHeldCatalog c.self.inside.facts ys) (sym undone) c.self.invariant)

pub returns-clause-same : goal.returns-clause-same
returns-clause-same c =
    let none = next_rows_free c.self.inside.facts c.self.inside.rows c.args.stream.now c.in-Ok.rows.name (to_z w64 (of_z w64 c.args.now)) c.in-Ok.rows c.self.invariant c.in-Ok.ensures.accepted c.in-Ok.ensures.next refl in
    let undone = rows_undone c.in-Ok.rows c.self.inside.rows c.put.new.self c.take_out.new.self c.as_bytes.result.now none (c.as_bytes.ensures ∙ c.in_ok-next.ensures) (c.in_ok-put.ensures.fresh none) c.take_out.ensures.left in
    ap (λ g. catalog_of g c.take_out.new.self) c.in-Err-roll_over.ensures.same ∙ (ap (λ ys. catalog_of c.self.inside.facts ys) undone ∙ c.self.view_is)
