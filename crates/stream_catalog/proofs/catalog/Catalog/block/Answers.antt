use Rattle.std.specs.Prelude.{◌≡◌, None, IfErr}
use Rattle.std.proofs.Common.{subst, rules}
use Rattle.stream_catalog.specs.Indices.{block_refusal}
use Rattle.stream_catalog.specs.Streams.{IsCause}
use Rattle.stream_catalog.proofs.HeldChangeLemmas.{facts_same, held_blocked, told_blocked}
use Rattle.stream_catalog.proofs.catalog.Catalog.block.Goals as goal

pub returns-in_err-block-clause-refused : goal.returns-in_err-block-clause-refused
returns-in_err-block-clause-refused c =
    let told : IfErr c.from_residual.result (IsCause (block_refusal c.self.inside.facts c.args.index.now)) = search rules in
    subst (λ f. IfErr c.from_residual.result (IsCause (block_refusal f c.args.index.now))) (facts_same c.self.inside.facts c.self.inside.rows c.args.self.now c.self.invariant c.self.view_is) told

pub invariant_of-self-2 : goal.invariant_of-self-2
invariant_of-self-2 c = held_blocked c.self.inside.facts c.block.new.self c.self.inside.rows c.args.index.now c.self.invariant c.in_ok-block.ensures.ok

pub returns-clause-accepted : goal.returns-clause-accepted
returns-clause-accepted c =
    subst (λ f. block_refusal f c.args.index.now ≡ None) (facts_same c.self.inside.facts c.self.inside.rows c.args.self.now c.self.invariant c.self.view_is) c.in_ok-block.ensures.accepted

pub returns-clause-ok : goal.returns-clause-ok
returns-clause-ok c = told_blocked c.self.inside.facts c.block.new.self c.self.inside.rows c.args.self.now c.args.index.now c.self.invariant c.self.view_is c.in_ok-block.ensures.ok
