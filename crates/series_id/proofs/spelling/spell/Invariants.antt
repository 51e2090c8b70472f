use Rattle.std.proofs.Common.{◌≡◌, ◌++◌, drop}
use Rattle.row_cells.specs.Dimensions.{key_bytes}
use Rattle.row_cells.specs.Fitting.{dimensions_of}
use Rattle.row_cells.specs.Spellable.{AreSpellable}
use Rattle.series_id.proofs.spelling.spell.Given as goal

abbrev pub invariant-loop-i : goal.invariant-loop-i
invariant-loop-i l = record {
  so_far : l.bytes.items ++ key_bytes (dimensions_of (drop l.i l.fields) (drop l.i l.cells)) ≡ key_bytes (dimensions_of l.fields l.cells);
  left : AreSpellable (drop l.i l.fields) (drop l.i l.cells);
}
