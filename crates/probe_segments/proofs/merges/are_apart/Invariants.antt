use Rattle.std.proofs.Common.{◌↔◌, drop}
use Rattle.row_cells.specs.Each.{Each}
use Rattle.probe_segments.specs.Apart.{IsApartFromAll}
use Rattle.probe_segments.proofs.merges.are_apart.Given as goal

abbrev pub invariant-loop-row : goal.invariant-loop-row
invariant-loop-row l = Each (IsApartFromAll l.others) l.rows ↔ Each (IsApartFromAll l.others) (drop l.row-index l.rows)
