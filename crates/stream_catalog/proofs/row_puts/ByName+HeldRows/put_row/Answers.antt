use Rattle.std.proofs.Common.{set, subst, rules}
use Rattle.row_cells.specs.RowLists.{insert_row}
use Rattle.stream_catalog.specs.RowChanges.{AreChanged}
use Rattle.stream_catalog.proofs.RowChangeLemmas.{changed_in_order, changed_there}
use Rattle.stream_catalog.proofs.row_puts.ByName+HeldRows.put_row.Goals as goal

pub invariant_of-self : goal.invariant_of-self
invariant_of-self c =
    changed_in_order c.args.name.now c.as_slice.result.now c.self.inside.items.items c.in-Ok.at c.as_slice.ensures.value (λ rows. rows) c.index_mut.result.now c.put.new.self c.in-Ok.ensures.here c.in_err-put-in-Ok.ensures.same c.index_mut.ensures.value c.self.invariant

pub invariant_of-self-in-Ok : goal.invariant_of-self-in-Ok
invariant_of-self-in-Ok c =
    changed_in_order c.args.name.now c.as_slice.result.now c.self.inside.items.items c.in-Ok.at c.as_slice.ensures.value (insert_row c.args.row.now) c.index_mut.result.now c.put.new.self c.in-Ok.ensures.here c.in_ok-put-in-Ok.ensures.ok c.index_mut.ensures.value c.self.invariant

pub returns-in_ok-put-in-Ok-clause-ok : goal.returns-in_ok-put-in-Ok-clause-ok
returns-in_ok-put-in-Ok-clause-ok c =
    subst (λ xs. AreChanged c.args.name.now (insert_row c.args.row.now) xs (set c.self.inside.items.items c.in-Ok.at c.put.new.self)) c.self.view_is
    (changed_there c.args.name.now c.as_slice.result.now c.self.inside.items.items c.in-Ok.at c.as_slice.ensures.value (insert_row c.args.row.now) c.index_mut.result.now c.put.new.self c.in-Ok.ensures.here c.in_ok-put-in-Ok.ensures.ok c.index_mut.ensures.value)

pub returns-in_err-put-in-Ok-clause-same : goal.returns-in_err-put-in-Ok-clause-same
returns-in_err-put-in-Ok-clause-same c =
    let stays : AreChanged c.args.name.now (λ rows. rows) c.args.self.now (set c.self.inside.items.items c.in-Ok.at c.put.new.self) =
    subst (λ xs. AreChanged c.args.name.now (λ rows. rows) xs (set c.self.inside.items.items c.in-Ok.at c.put.new.self)) c.self.view_is
    (changed_there c.args.name.now c.as_slice.result.now c.self.inside.items.items c.in-Ok.at c.as_slice.ensures.value (λ rows. rows) c.index_mut.result.now c.put.new.self c.in-Ok.ensures.here c.in_err-put-in-Ok.ensures.same c.index_mut.ensures.value) in
    search (rules, stays)
