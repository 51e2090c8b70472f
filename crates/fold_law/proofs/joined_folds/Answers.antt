use Rattle.fold_law.specs.ListLaws.{fold_of-append, reach-fold_of}
use Rattle.fold_law.proofs.joined_folds.Goals as goal

pub returns-clause-joined : goal.returns-clause-joined
returns-clause-joined g c = λ earlier later. fold_of-append g.met.F.Fold.laws g.F.Fold.one earlier later

pub returns-clause-reached : goal.returns-clause-reached
returns-clause-reached g c = λ items. reach-fold_of g.met.F.Fold.laws g.F.Fold.one items
