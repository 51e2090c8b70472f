use Rattle.std.proofs.Common.{◌∙◌}
use Rattle.stream_catalog.proofs.PlaceLemmas.{changed_absent, changed_ascends}
use Rattle.stream_catalog.proofs.by_name.ByName.change.Goals as goal

pub invariant_of-self : goal.invariant_of-self
invariant_of-self g c =
    changed_ascends g.T.Named.name_of c.args.name.now c.as_slice.result.now c.self.inside.items.items c.in-Ok.at c.as_slice.ensures.value (g.C.Change.changed c.args.change) c.index_mut.result.now c.apply.new.item (g.met.C.Change.keeps_name c.args.change)
    c.in-Ok.ensures.here c.apply.ensures c.index_mut.ensures.value c.self.invariant

pub returns-in-Err-clause-changed : goal.returns-in-Err-clause-changed
returns-in-Err-clause-changed g c =
    changed_absent g.T.Named.name_of c.args.name.now c.as_slice.result.now c.args.self.now c.in-Err.field-0 (c.as_slice.ensures.value ∙ c.self.view_is) (g.C.Change.changed c.args.change) c.in-Err.ensures.absent
