use Rattle.std.proofs.Common.{◌∙◌}
use Rattle.stream_catalog.proofs.PlaceLemmas.{left_absent, left_ascends}
use Rattle.stream_catalog.proofs.by_name.ByName.take_out.Goals as goal

pub invariant_of-self : goal.invariant_of-self
invariant_of-self g c =
    left_ascends g.T.Named.name_of c.args.name.now c.as_slice.result.now c.self.inside.items.items c.in-Ok.at c.as_slice.ensures.value c.remove.new.self.items
    c.in-Ok.ensures.here c.remove.ensures.items c.self.invariant

pub returns-in-Err-clause-left : goal.returns-in-Err-clause-left
returns-in-Err-clause-left g c =
    left_absent g.T.Named.name_of c.args.name.now c.as_slice.result.now c.args.self.now c.in-Err.field-0 (c.as_slice.ensures.value ∙ c.self.view_is) c.in-Err.ensures.absent
