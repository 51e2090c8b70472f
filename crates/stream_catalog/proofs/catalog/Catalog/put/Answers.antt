use Rattle.std.specs.Prelude.{◌≡◌, IfErr}
use Rattle.std.proofs.Common.{◌∙◌, subst, sym, rules}
use Rattle.stream_catalog.specs.Beside.{catalog_of}
use Rattle.stream_catalog.specs.Calls.{IsPutCause}
use Rattle.stream_catalog.specs.RowChanges.{held_refusal}
use Rattle.stream_catalog.proofs.HeldPutLemmas.{awaited, held_put, held_stay, refusal_told, told_put, told_stay}
use Rattle.stream_catalog.proofs.catalog.Catalog.put.Goals as goal

pub put_row-requires : goal.put_row-requires
put_row-requires c =
    awaited c.self.inside.facts c.self.inside.rows c.args.self.now c.as_bytes.result.now c.args.index.now c.args.row.now c.self.invariant c.self.view_is c.as_bytes.ensures c.requires

pub invariant_of-self : goal.invariant_of-self
invariant_of-self c = held_stay c.self.inside.facts c.self.inside.rows c.put_row.new.self c.as_bytes.result.now c.self.invariant c.in_err-put_row.ensures.same

pub returns-in_err-put_row-clause-refused : goal.returns-in_err-put_row-clause-refused
returns-in_err-put_row-clause-refused c =
    let told : IfErr c.from_residual.result (IsPutCause (held_refusal c.self.inside.rows c.as_bytes.result.now c.args.row.now)) = search rules in
    subst (λ r. IfErr c.from_residual.result (IsPutCause r)) (refusal_told c.self.inside.facts c.self.inside.rows c.args.self.now c.as_bytes.result.now c.args.index.now c.args.row.now c.self.invariant c.self.view_is c.as_bytes.ensures) told

pub returns-in_err-put_row-clause-same : goal.returns-in_err-put_row-clause-same
returns-in_err-put_row-clause-same c =
    let stays : catalog_of c.self.inside.facts c.put_row.new.self ≡ c.args.self.now = told_stay c.self.inside.facts c.self.inside.rows c.put_row.new.self c.as_bytes.result.now c.self.invariant c.in_err-put_row.ensures.same ∙ c.self.view_is in
    search (rules, stays)

pub invariant_of-self-2 : goal.invariant_of-self-2
invariant_of-self-2 c =
    held_put c.self.inside.facts c.self.inside.rows c.put_row.new.self c.args.self.now c.as_bytes.result.now c.args.index.now c.args.row.now c.self.invariant c.self.view_is c.as_bytes.ensures c.requires
    c.in_ok-put_row.ensures.accepted c.in_ok-put_row.ensures.ok

pub returns-clause-accepted : goal.returns-clause-accepted
returns-clause-accepted c =
    sym (refusal_told c.self.inside.facts c.self.inside.rows c.args.self.now c.as_bytes.result.now c.args.index.now c.args.row.now c.self.invariant c.self.view_is c.as_bytes.ensures) ∙ c.in_ok-put_row.ensures.accepted

pub returns-clause-ok : goal.returns-clause-ok
returns-clause-ok c =
    told_put c.self.inside.facts c.self.inside.rows c.put_row.new.self c.args.self.now c.as_bytes.result.now c.args.index.now c.args.row.now c.self.invariant c.self.view_is c.as_bytes.ensures c.in_ok-put_row.ensures.ok
