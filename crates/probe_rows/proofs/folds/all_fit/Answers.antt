use Rattle.row_cells.specs.EachLaws.{Each-weaker}
use Rattle.row_cells.specs.Fitting.{Fits}
use Rattle.row_cells.specs.KeyedRows.{IsRowOf}
use Rattle.probe_rows.proofs.folds.all_fit.Goals as goal

pub returns : goal.returns
returns c = Each-weaker (IsRowOf c.args.schema.now) (Fits c.args.schema.now) (λ row is. is.fits) c.args.rows.now c.requires.each
