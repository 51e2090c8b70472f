use Rattle.std.proofs.Common.{◌↔◌, drop}
use Rattle.row_cells.specs.Fitting.{AreValuesAfter}
use Rattle.row_cells.proofs.fits.are_values_after.Given as goal

abbrev pub invariant-loop-value : goal.invariant-loop-value
invariant-loop-value l = AreValuesAfter l.kind l.first l.values ↔ AreValuesAfter l.kind l.before (drop l.value-index l.values)
