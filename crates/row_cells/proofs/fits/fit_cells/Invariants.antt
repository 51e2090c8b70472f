use Rattle.std.proofs.Common.{◌↔◌, drop}
use Rattle.row_cells.specs.Fitting.{CellsFit}
use Rattle.row_cells.proofs.fits.fit_cells.Given as goal

abbrev pub invariant-loop-place : goal.invariant-loop-place
invariant-loop-place l = CellsFit l.folded l.rises l.documents l.fields l.cells ↔ CellsFit l.folded l.rises l.documents (drop l.place l.fields) (drop l.place l.cells)
