use Rattle.index_names.specs.NameLaws.{fold_is_target, fold_of_backing_is_target}
use Rattle.index_names.proofs.laws.names_of_folds.Goals as goal

pub returns-clause-few : goal.returns-clause-few
returns-clause-few c = fold_is_target

pub returns-clause-backing : goal.returns-clause-backing
returns-clause-backing c = fold_of_backing_is_target
