use Rattle.std.proofs.Common.{◌≡◌, drop}
use Rattle.row_cells.specs.Mapped.{any_present}
use Rattle.series_id.proofs.keys.is_any_present.Given as goal

abbrev pub invariant-loop-place : goal.invariant-loop-place
invariant-loop-place l = any_present (drop l.place-index l.places) l.cells ≡ any_present l.places l.cells
