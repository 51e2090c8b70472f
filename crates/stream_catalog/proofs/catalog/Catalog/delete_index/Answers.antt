use Rattle.std.specs.Prelude.{◌≡◌, None, IfErr}
use Rattle.std.proofs.Common.{subst, rules}
use Rattle.stream_catalog.specs.Indices.{delete_refusal}
use Rattle.stream_catalog.specs.Streams.{IsCause}
use Rattle.stream_catalog.proofs.HeldChangeLemmas.{facts_same}
use Rattle.stream_catalog.proofs.HeldGoneLemmas.{held_deleted, told_deleted}
use Rattle.stream_catalog.proofs.catalog.Catalog.delete_index.Goals as goal

pub returns-in_err-delete_index-clause-refused : goal.returns-in_err-delete_index-clause-refused
returns-in_err-delete_index-clause-refused c =
    let told : IfErr c.from_residual.result (IsCause (delete_refusal c.self.inside.facts c.args.index.now)) = search rules in
    subst (λ f. IfErr c.from_residual.result (IsCause (delete_refusal f c.args.index.now))) (facts_same c.self.inside.facts c.self.inside.rows c.args.self.now c.self.invariant c.self.view_is) told

pub invariant_of-self-2 : goal.invariant_of-self-2
invariant_of-self-2 c =
    held_deleted c.self.inside.facts c.delete_index.new.self c.self.inside.rows c.take_out.new.self c.as_bytes.result.now c.args.index.now c.self.invariant c.in_ok-delete_index.ensures.accepted c.in_ok-delete_index.ensures.ok
    c.as_bytes.ensures c.take_out.ensures.left

pub returns-clause-accepted : goal.returns-clause-accepted
returns-clause-accepted c =
    subst (λ f. delete_refusal f c.args.index.now ≡ None) (facts_same c.self.inside.facts c.self.inside.rows c.args.self.now c.self.invariant c.self.view_is) c.in_ok-delete_index.ensures.accepted

pub returns-clause-ok : goal.returns-clause-ok
returns-clause-ok c =
    told_deleted c.self.inside.facts c.delete_index.new.self c.self.inside.rows c.take_out.new.self c.args.self.now c.as_bytes.result.now c.args.index.now c.self.invariant c.self.view_is c.in_ok-delete_index.ensures.ok
    c.as_bytes.ensures c.take_out.ensures.left
