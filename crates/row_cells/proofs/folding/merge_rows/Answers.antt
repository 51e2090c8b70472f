use Rattle.row_cells.specs.FitLaws.{merge_of_rows_fits, rows_have_room}
use Rattle.row_cells.proofs.folding.merge_rows.Goals as goal

pub merge_all-requires : goal.merge_all-requires
merge_all-requires c = rw (c.as_slice.ensures, c.as_slice-2.ensures, c.as_slice-3.ensures) (rows_have_room c.args.schema.now c.args.earlier.now c.args.later.now c.requires.earlier_fits c.requires.later_fits c.requires.few)

pub returns-in_err-copy-clause-fits : goal.returns-in_err-copy-clause-fits
returns-in_err-copy-clause-fits c = merge_of_rows_fits c.args.schema.now c.args.earlier.now c.args.later.now c.requires.earlier_fits c.requires.later_fits c.requires.few

pub returns-in_err-merge_all-clause-fits : goal.returns-in_err-merge_all-clause-fits
returns-in_err-merge_all-clause-fits c = merge_of_rows_fits c.args.schema.now c.args.earlier.now c.args.later.now c.requires.earlier_fits c.requires.later_fits c.requires.few

pub returns-clause-fits : goal.returns-clause-fits
returns-clause-fits c = merge_of_rows_fits c.args.schema.now c.args.earlier.now c.args.later.now c.requires.earlier_fits c.requires.later_fits c.requires.few
