use Rattle.row_cells.specs.EachLaws.{Each-weaker}
use Rattle.row_cells.specs.Fitting.{Fits}
use Rattle.row_cells.specs.KeyedRows.{IsRowOf}
use Rattle.tsds_index.proofs.folds.fold_rows.Goals as goal

pub fold_all-requires-clause-fit : goal.fold_all-requires-clause-fit
fold_all-requires-clause-fit c = Each-weaker (IsRowOf c.args.schema.now) (Fits c.args.schema.now) (λ row is. is.fits) c.args.rows.now c.requires.each
