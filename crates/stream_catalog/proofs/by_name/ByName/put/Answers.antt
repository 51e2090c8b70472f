use Rattle.std.proofs.Common.{◌∙◌, sym}
use Rattle.stream_catalog.proofs.PlaceLemmas.{put_absent, put_absent_ascends, replaced_ascends}
use Rattle.stream_catalog.proofs.by_name.ByName.put.Goals as goal

pub invariant_of-self : goal.invariant_of-self
invariant_of-self g c =
    replaced_ascends g.T.Named.name_of c.as_bytes.result.now c.as_slice.result.now c.self.inside.items.items c.in-Ok.at c.as_slice.ensures.value c.args.item
    c.in-Ok.ensures.here (sym (c.as_bytes.ensures ∙ c.name.ensures)) c.self.invariant

pub invariant_of-self-in-Continue-1 : goal.invariant_of-self-in-Continue-1
invariant_of-self-in-Continue-1 g c =
    put_absent_ascends g.T.Named.name_of c.as_bytes.result.now c.as_slice.result.now c.self.inside.items.items c.in-Err.at c.as_slice.ensures.value c.args.item c.insert.new.self.items
    c.in-Err.ensures.absent (sym (c.as_bytes.ensures ∙ c.name.ensures)) c.in_ok-insert-in-Err.ensures.items c.self.invariant

pub returns-in_ok-insert-in-Err-clause-ok : goal.returns-in_ok-insert-in-Err-clause-ok
returns-in_ok-insert-in-Err-clause-ok g c =
    put_absent g.T.Named.name_of c.as_bytes.result.now c.as_slice.result.now c.args.self.now c.in-Err.at (c.as_slice.ensures.value ∙ c.self.view_is) c.args.item c.insert.new.self.items
    c.in-Err.ensures.absent (sym (c.as_bytes.ensures ∙ c.name.ensures)) (rw c.self.view_is at c.in_ok-insert-in-Err.ensures.items)
