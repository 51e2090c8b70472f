use Rattle.std.specs.Prelude.{◌≡◌, None, IfErr}
use Rattle.std.proofs.Common.{subst, rules}
use Rattle.stream_catalog.specs.Streams.{IsCause, template_refusal}
use Rattle.stream_catalog.proofs.HeldChangeLemmas.{facts_same, held_template, mappings_held}
use Rattle.stream_catalog.proofs.catalog.Catalog.put_template.Goals as goal

pub put_template-requires-clause-indices : goal.put_template-requires-clause-indices
put_template-requires-clause-indices c = mappings_held c.self.inside.facts c.self.inside.rows c.self.invariant

pub returns-in_err-put_template-clause-refused : goal.returns-in_err-put_template-clause-refused
returns-in_err-put_template-clause-refused c =
    let told : IfErr c.from_residual.result (IsCause (template_refusal c.self.inside.facts c.args.template)) = search rules in
    subst (λ f. IfErr c.from_residual.result (IsCause (template_refusal f c.args.template))) (facts_same c.self.inside.facts c.self.inside.rows c.args.self.now c.self.invariant c.self.view_is) told

pub invariant_of-self-2 : goal.invariant_of-self-2
invariant_of-self-2 c =
    held_template c.self.inside.facts c.put_template.new.self c.self.inside.rows c.args.template c.requires c.self.invariant c.in_ok-put_template.ensures.accepted c.in_ok-put_template.ensures.ok

pub returns-clause-accepted : goal.returns-clause-accepted
returns-clause-accepted c =
    subst (λ f. template_refusal f c.args.template ≡ None) (facts_same c.self.inside.facts c.self.inside.rows c.args.self.now c.self.invariant c.self.view_is) c.in_ok-put_template.ensures.accepted
