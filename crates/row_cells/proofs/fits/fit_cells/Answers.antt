use Rattle.row_cells.proofs.Fit.{cells_long}
use Rattle.row_cells.proofs.fits.fit_cells.Goals as goal

pub returns-then-fields-cells : goal.returns-then-fields-cells
returns-then-fields-cells c = (λ f. cc, λ fit. absurd (c.if-fields-cells.true (cells_long c.args.folded c.args.rises c.args.documents c.args.fields.now c.args.cells.now fit)))
