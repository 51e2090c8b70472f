use Rattle.std.proofs.Common.{◌≡◌, ◌≤◌, List, length, take}
use Rattle.row_cells.specs.declared.rows.Row.{Row}
use Rattle.row_cells.specs.Mapped.{IsMapped}
use Rattle.index_segment.specs.Directory.{sizes_of, total}
use Rattle.index_segment.specs.Parts.{HaveParts}
use Rattle.row_cells.specs.KeyedRows.{AreRowsOf}
use Rattle.index_segment.proofs.remake.make_rows.Given as goal

abbrev pub invariant-loop-series : goal.invariant-loop-series
invariant-loop-series l = record {
  within : l.start ≤ length l.parsed.times;
  rows : (rows : List Row) → IsMapped l.schema → AreRowsOf l.schema rows → HaveParts l.schema rows l.parsed.keys l.parsed.sizes l.parsed.times l.parsed.counts l.parsed.columns → (l.start ≡ total l.series (sizes_of rows)) × (l.made.items ≡ take l.start rows);
}
