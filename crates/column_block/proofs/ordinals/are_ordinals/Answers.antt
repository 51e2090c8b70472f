use Rattle.std.proofs.Common.{◌∙◌, ap, sym, subst, refl, pos, take, ◌++◌}
use Rattle.std.proofs.lemmas.List.{take_all}
use Rattle.packed_lists.specs.Lists.{joined}
use Rattle.column_block.specs.Worded.{AreMarked, ClimbFrom}
use Rattle.column_block.specs.EachLaws.{each-more}
use Rattle.column_block.proofs.Among.{joined-more}
use Rattle.column_block.proofs.Climbing.{all-marked, limit-cast}
use Rattle.column_block.proofs.ordinals.are_ordinals.Goals as goal

pub mark-requires : goal.mark-requires
mark-requires c =
    subst (λ z. ClimbFrom (pos 0) z c.as_slice-places.result.now) (limit-cast c.args.count c.limit_of-limit.result c.limit_of-limit.ensures c.requires ∙ ap pos (sym c.loop-row.invariant.long)) (c.if-not-are_places.ensures.0 refl)

pub loop-row-preserved : goal.loop-row-preserved
loop-row-preserved c =
    let l = c.loop-row in
    let k = l.row-index in
    let row = c.row-item.result in
    let one : ClimbFrom (pos 0) (pos c.args.count) row =
    subst (λ z. ClimbFrom (pos 0) (pos c.args.count) z) c.as_slice-places.ensures (subst (λ z. ClimbFrom (pos 0) z c.as_slice-places.result.now) (limit-cast c.args.count c.limit_of-limit.result c.limit_of-limit.ensures c.requires) (c.if-not-are_places.ensures.0 refl)) in
    record {
      long = c.mark.ensures.long ∙ l.invariant.long;
      climb = each-more (ClimbFrom (pos 0) (pos c.args.count)) c.args.rows.now k row c.loop-row-test.true l.invariant.climb (subst (λ z. ClimbFrom (pos 0) (pos c.args.count) z) c.row-item.is one);
      marked = subst (λ z. AreMarked z c.mark.new.seen.items) (ap (λ z. joined (take k c.args.rows.now) ++ z) c.as_slice-places.ensures ∙ joined-more c.args.rows.now k row c.loop-row-test.true c.row-item.is) (c.mark.ensures.marked (joined (take k c.args.rows.now)) l.invariant.marked);
    }

pub returns : goal.returns
returns c =
    let l = c.loop-row in
    all-marked c.args.count c.args.rows.now (take l.row-index c.args.rows.now) l.seen.items c.as_slice.result.now c.are_all.result c.as_slice.ensures.value l.invariant.long (take_all l.row-index c.args.rows.now c.loop-row-test.false) l.invariant.climb l.invariant.marked c.are_all.ensures
