use Rattle.std.proofs.Common.{◌∙◌, arith, take_all}
use Rattle.fold_law.specs.ListLaws.{reach-fold_of}
use Rattle.fold_law.proofs.Steps.{fold_of-take_more, reach_of_items-more}
use Rattle.fold_law.proofs.fold_all.Goals as goal

pub add-folded-requires : goal.add-folded-requires
add-folded-requires g c =
    rw c.loop-item.invariant (omega (arith, reach_of_items-more g.met.F.Fold.laws g.F.Fold.one c.args.items.now c.loop-item.item-index c.item-item.result c.loop-item-test.true c.item-item.is, c.requires))

pub loop-item-preserved : goal.loop-item-preserved
loop-item-preserved g c =
    rw c.loop-item.invariant at c.add-folded.ensures ∙ fold_of-take_more g.met.F.Fold.laws g.F.Fold.one c.args.items.now c.loop-item.item-index c.item-item.result c.loop-item-test.true c.item-item.is

pub returns-clause-reached : goal.returns-clause-reached
returns-clause-reached g c =
    rw (c.loop-item.invariant, take_all c.loop-item.item-index c.args.items.now c.loop-item-test.false) (reach-fold_of g.met.F.Fold.laws g.F.Fold.one c.args.items.now)
