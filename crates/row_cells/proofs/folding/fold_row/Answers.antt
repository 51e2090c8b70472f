use Rattle.row_cells.specs.FitLaws.{fold_of_row_fits, FitsEither-length}
use Rattle.row_cells.proofs.folding.fold_row.Goals as goal

pub fold_each-requires : goal.fold_each-requires
fold_each-requires c = rw (c.as_slice.ensures, c.as_slice-2.ensures) (FitsEither-length c.args.schema.now c.args.row.now c.requires)

pub returns-in_err-copy-clause-fits : goal.returns-in_err-copy-clause-fits
returns-in_err-copy-clause-fits c = fold_of_row_fits c.args.schema.now c.args.row.now c.requires

pub returns-in_err-fold_each-clause-fits : goal.returns-in_err-fold_each-clause-fits
returns-in_err-fold_each-clause-fits c = fold_of_row_fits c.args.schema.now c.args.row.now c.requires

pub returns-clause-fits : goal.returns-clause-fits
returns-clause-fits c = fold_of_row_fits c.args.schema.now c.args.row.now c.requires
