use Rattle.stream_catalog.proofs.MemberLemmas.{changed_next}
use Rattle.stream_catalog.proofs.by_name.change_all.Goals as goal

pub loop-at-preserved : goal.loop-at-preserved
loop-at-preserved g c =
    changed_next (g.C.EachChange.each_changed c.args.change.now) c.args.items.now.items c.loop-at.items.items c.loop-at.at c.index_mut.result.now c.apply_to.new.item c.loop-at.invariant c.index_mut.ensures.value c.apply_to.ensures
