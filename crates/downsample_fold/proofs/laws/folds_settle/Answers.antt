use Rattle.downsample_fold.specs.SettleLaws.{folds_settle, folds_any_form}
use Rattle.downsample_fold.proofs.laws.folds_settle.Goals as goal

pub returns-clause-settled : goal.returns-clause-settled
returns-clause-settled c = folds_settle

pub returns-clause-form : goal.returns-clause-form
returns-clause-form c = folds_any_form
