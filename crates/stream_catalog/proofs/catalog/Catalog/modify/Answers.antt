use Rattle.std.specs.Prelude.{◌≡◌, None, IfErr}
use Rattle.std.proofs.Common.{subst, rules}
use Rattle.stream_catalog.specs.Moves.{moves_refusal}
use Rattle.stream_catalog.specs.Streams.{IsCause}
use Rattle.stream_catalog.proofs.HeldChangeLemmas.{facts_same, held_moved, told_moved}
use Rattle.stream_catalog.proofs.catalog.Catalog.modify.Goals as goal

pub returns-in_err-modify-clause-refused : goal.returns-in_err-modify-clause-refused
returns-in_err-modify-clause-refused c =
    let told : IfErr c.from_residual.result (IsCause (moves_refusal c.self.inside.facts c.args.moves.now)) = search rules in
    subst (λ f. IfErr c.from_residual.result (IsCause (moves_refusal f c.args.moves.now))) (facts_same c.self.inside.facts c.self.inside.rows c.args.self.now c.self.invariant c.self.view_is) told

pub invariant_of-self-2 : goal.invariant_of-self-2
invariant_of-self-2 c = held_moved c.self.inside.facts c.modify.new.self c.self.inside.rows c.args.moves.now c.self.invariant c.in_ok-modify.ensures.accepted c.in_ok-modify.ensures.ok

pub returns-clause-accepted : goal.returns-clause-accepted
returns-clause-accepted c =
    subst (λ f. moves_refusal f c.args.moves.now ≡ None) (facts_same c.self.inside.facts c.self.inside.rows c.args.self.now c.self.invariant c.self.view_is) c.in_ok-modify.ensures.accepted

pub returns-clause-ok : goal.returns-clause-ok
returns-clause-ok c = told_moved c.self.inside.facts c.modify.new.self c.self.inside.rows c.args.self.now c.args.moves.now c.self.invariant c.self.view_is c.in_ok-modify.ensures.ok
