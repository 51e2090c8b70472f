use Rattle.row_cells.specs.Each.{Each}
use Rattle.row_cells.specs.KeyedRows.{IsRowOf}
use Rattle.tsds_bench.proofs.samples.rows_in.Given as goal

abbrev pub invariant-loop-place : goal.invariant-loop-place
invariant-loop-place l = Each (IsRowOf l.schema) l.rows.items
