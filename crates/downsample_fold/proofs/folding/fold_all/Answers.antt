use Rattle.std.proofs.Common.{◌∙◌, arith}
use Rattle.time_text.specs.Interval.{ms_of}
use Rattle.downsample_fold.specs.FoldLaws.{joined-down, folds_fit, folds_in_order, folds_count_all}
use Rattle.downsample_fold.specs.JoinedFitLaws.{AllFit-cells}
use Rattle.downsample_fold.proofs.folding.fold_all.Goals as goal

pub returns-clause-folded : goal.returns-clause-folded
returns-clause-folded c =
    c.in_ok-folded.ensures ∙ joined-down c.args.schema.now c.args.rows.now (ms_of c.args.by) c.requires.fit c.requires.in_order (omega (arith, c.args.by.in_range))

pub returns-clause-fit : goal.returns-clause-fit
returns-clause-fit c =
    rw (returns-clause-folded c) (folds_fit c.args.schema.now c.args.rows.now (ms_of c.args.by) (omega (arith, c.args.by.in_range)) c.requires.fit c.requires.few)

pub returns-clause-in_order : goal.returns-clause-in_order
returns-clause-in_order c =
    rw (returns-clause-folded c) (folds_in_order c.args.schema.now c.args.rows.now (ms_of c.args.by) (AllFit-cells c.args.schema.now c.args.rows.now c.requires.fit) (omega (arith, c.args.by.in_range)))

pub returns-clause-counted : goal.returns-clause-counted
returns-clause-counted c =
    rw (returns-clause-folded c) (folds_count_all c.args.schema.now c.args.rows.now (ms_of c.args.by) (AllFit-cells c.args.schema.now c.args.rows.now c.requires.fit) (omega (arith, c.args.by.in_range)))
