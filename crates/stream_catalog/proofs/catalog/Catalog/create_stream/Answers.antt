use Rattle.std.specs.Prelude.{◌≡◌, None}
use Rattle.std.proofs.Common.{◌∙◌, ap, subst, sym, to_z, of_z, w64}
use Rattle.std.proofs.lemmas.Int.{to_z-of_z}
use Rattle.time_text.specs.Instant.{IsInstant}
use Rattle.stream_catalog.specs.Beside.{IsHeldCatalog, catalog_of}
use Rattle.stream_catalog.specs.FactChanges.{facts_created}
use Rattle.stream_catalog.specs.Plain.{facts_of}
use Rattle.stream_catalog.specs.Streams.{IsCause, create_refusal, created}
use Rattle.stream_catalog.proofs.HeldChangeLemmas.{facts_same}
use Rattle.stream_catalog.proofs.HeldGoneLemmas.{created_held, created_told, first_free, rows_undone}
use Rattle.stream_catalog.proofs.catalog.Catalog.create_stream.Goals as goal

pub returns-in-Err-clause-refused : goal.returns-in-Err-clause-refused
returns-in-Err-clause-refused c =
    subst (λ k. IsCause (create_refusal (facts_of c.args.self.now) c.args.name.now k) c.in-Err.error) (to_z-of_z w64 c.args.now c.ranges.now)
    (subst (λ f. IsCause (create_refusal f c.args.name.now (to_z w64 (of_z w64 c.args.now))) c.in-Err.error) (facts_same c.self.inside.facts c.self.inside.rows c.args.self.now c.self.invariant c.self.view_is) c.in-Err.ensures.refused)

pub invariant_of-self-in-Ok-create : goal.invariant_of-self-in-Ok-create
invariant_of-self-in-Ok-create c =
    let at = to_z w64 (of_z w64 c.args.now) in
    let fresh = c.in_ok-put.ensures.fresh (first_free c.self.inside.facts c.self.inside.rows c.args.name.now c.in-Ok.rows.name at c.self.invariant c.in-Ok.ensures.accepted c.in-Ok.ensures.name) in
    subst (λ g. IsHeldCatalog g c.put.new.self) (sym c.in-Ok-create.ensures.ok)
    (subst (λ ys. IsHeldCatalog (facts_created c.self.inside.facts c.args.name.now at) ys) (sym fresh)
    (created_held c.self.inside.facts c.self.inside.rows c.in-Ok.rows c.args.name.now at c.self.invariant c.in-Ok.ensures.name c.in-Ok.ensures.empty c.in-Ok.ensures.schema
    (subst IsInstant (sym (to_z-of_z w64 c.args.now c.ranges.now)) c.requires) c.in-Ok.ensures.accepted))

pub returns-in-Ok-create-clause-accepted : goal.returns-in-Ok-create-clause-accepted
returns-in-Ok-create-clause-accepted c =
    subst (λ k. create_refusal (facts_of c.args.self.now) c.args.name.now k ≡ None) (to_z-of_z w64 c.args.now c.ranges.now)
    (subst (λ f. create_refusal f c.args.name.now (to_z w64 (of_z w64 c.args.now)) ≡ None) (facts_same c.self.inside.facts c.self.inside.rows c.args.self.now c.self.invariant c.self.view_is) c.in-Ok.ensures.accepted)

pub returns-in-Ok-create-clause-ok : goal.returns-in-Ok-create-clause-ok
returns-in-Ok-create-clause-ok c =
    let at = to_z w64 (of_z w64 c.args.now) in
    let fresh = c.in_ok-put.ensures.fresh (first_free c.self.inside.facts c.self.inside.rows c.args.name.now c.in-Ok.rows.name at c.self.invariant c.in-Ok.ensures.accepted c.in-Ok.ensures.name) in
    created_told c.self.inside.facts c.self.inside.rows c.in-Ok.rows c.args.name.now at c.self.invariant c.in-Ok.ensures.name c.in-Ok.ensures.empty c.in-Ok.ensures.schema
    c.create.new.self c.put.new.self c.args.self.now c.self.view_is c.in-Ok-create.ensures.ok fresh
    ∙ ap (created c.args.self.now c.args.name.now) (to_z-of_z w64 c.args.now c.ranges.now)

pub invariant_of-self-in-Err-create : goal.invariant_of-self-in-Err-create
invariant_of-self-in-Err-create c =
    let none = first_free c.self.inside.facts c.self.inside.rows c.args.name.now c.in-Ok.rows.name (to_z w64 (of_z w64 c.args.now)) c.self.invariant c.in-Ok.ensures.accepted c.in-Ok.ensures.name in
    let undone = rows_undone c.in-Ok.rows c.self.inside.rows c.put.new.self c.take_out.new.self c.as_bytes.result.now none (c.as_bytes.ensures ∙ c.in_ok-first.ensures) (c.in_ok-put.ensures.fresh none) c.take_out.ensures.left in
    subst (λ g. IsHeldCatalog g c.take_out.new.self) (sym c.in-Err-create.ensures.same) (subst (λ ys. IsHeldCatalog c.self.inside.facts ys) (sym undone) c.self.invariant)

pub returns-clause-same : goal.returns-clause-same
returns-clause-same c =
    let none = first_free c.self.inside.facts c.self.inside.rows c.args.name.now c.in-Ok.rows.name (to_z w64 (of_z w64 c.args.now)) c.self.invariant c.in-Ok.ensures.accepted c.in-Ok.ensures.name in
    let undone = rows_undone c.in-Ok.rows c.self.inside.rows c.put.new.self c.take_out.new.self c.as_bytes.result.now none (c.as_bytes.ensures ∙ c.in_ok-first.ensures) (c.in_ok-put.ensures.fresh none) c.take_out.ensures.left in
    ap (λ g. catalog_of g c.take_out.new.self) c.in-Err-create.ensures.same ∙ (ap (λ ys. catalog_of c.self.inside.facts ys) undone ∙ c.self.view_is)
