-- The values that folds keep.
use Rattle.std.specs.Prelude.{◌≡◌, ℕ, List, Bool, true, Option, Some, None}
use Rattle.std.proofs.Common.{refl, ap, ◌∙◌, sym}
use Rattle.row_cells.specs.declared.schemas.Role.TheVariants.{Gauge as GaugeRole, Counter}
use Rattle.row_cells.specs.declared.schemas.Schema.{Schema}
use Rattle.row_cells.specs.declared.rows.Cell.{Cell}
use Rattle.row_cells.specs.Merging.{parts_of, cell_of_parts, rise_of, cell_of_rise, merge_cell, fold_cell}
use Rattle.row_cells.specs.MergeLaws.{merge_cell-fold_cell_left, merge_cell-fold_cell_right, fold_cell-fold_cell, fold_cell-merge_cell}
use Rattle.fold_law.specs.declared.measures.Gauge.{Gauge}
use Rattle.fold_law.specs.declared.measures.Parts.{Parts}
use Rattle.fold_law.specs.declared.counters.Rise.{Rise}
use Rattle.fold_law.specs.declared.counters.Rising.{Rising}
use Rattle.fold_law.specs.Gauges.{merge_gauges}
use Rattle.std.specs.Str.{bytes_eq}
use Rattle.fold_law.specs.Rises.{merge_risings}
use Rattle.fold_law.specs.RiseLaws.{rising_laws}
use Rattle.downsample_fold.specs.TotalLaws.{folds_keep_totals}
use Rattle.downsample_fold.specs.CellLaws.{cell_of_merge, cell_of_fold}
use Rattle.downsample_fold.specs.Columns.{cell_of}
use Rattle.downsample_fold.specs.Totals.{IsFolded}
use Rattle.downsample_fold.specs.Measures.{gauge_in, rising_in, CountsAreFolded, GaugesAreFolded, RisesAreFolded, CellsAreFolded, FoldsKeepRises}

parts_of-cell_of_parts : (p : Option Parts) → parts_of (cell_of_parts p) ≡ p
parts_of-cell_of_parts None = refl
parts_of-cell_of_parts (Some p) = refl

rise_of-cell_of_rise : (p : Option Rise) → rise_of (cell_of_rise p) ≡ p
rise_of-cell_of_rise None = refl
rise_of-cell_of_rise (Some p) = refl

gauge_by : Option Parts → Gauge
gauge_by p = record { 0 = p }

rising_by : Option Rise → Rising
rising_by p = record { 0 = p }

rise_of-merge : (rises : Bool) (a b : Cell) → rises ≡ true → rise_of (merge_cell rises Counter a b) ≡ rise_of (merge_cell true Counter a b)
rise_of-merge rises a b is = ap (λ r. rise_of (merge_cell r Counter a b)) is

rise_of-fold : (rises : Bool) (a : Cell) → rises ≡ true → rise_of (fold_cell rises Counter a) ≡ rise_of (fold_cell true Counter a)
rise_of-fold rises a is = ap (λ r. rise_of (fold_cell r Counter a)) is

-- ---- the values

pub counts_are_folded : CountsAreFolded
counts_are_folded schema = record {
  of_joined = λ a b cells_a cells_b same. refl;
  of_one = λ a time cells. refl;
}

pub gauges_are_folded : GaugesAreFolded
unfolding gauge_by
gauges_are_folded schema place at = record {
  of_joined = λ a b cells_a cells_b same.
      ap gauge_by (ap parts_of (cell_of_merge schema.rises GaugeRole schema.fields a.cells b.cells place cells_a cells_b at) ∙ parts_of-cell_of_parts (merge_gauges (gauge_in place a) (gauge_in place b)).0);
  of_one = λ a time cells.
      ap gauge_by (ap parts_of (cell_of_fold schema.rises GaugeRole schema.fields a.cells place cells at) ∙ parts_of-cell_of_parts (parts_of (cell_of place a)));
}

pub rises_are_folded : RisesAreFolded
unfolding rising_by
rises_are_folded schema place at rises = record {
  of_joined = λ a b cells_a cells_b same.
      ap rising_by (ap rise_of (cell_of_merge schema.rises Counter schema.fields a.cells b.cells place cells_a cells_b at) ∙ (rise_of-merge schema.rises (cell_of place a) (cell_of place b) rises ∙ rise_of-cell_of_rise (merge_risings (rising_in place a) (rising_in place b)).0));
  of_one = λ a time cells.
      ap rising_by (ap rise_of (cell_of_fold schema.rises Counter schema.fields a.cells place cells at) ∙ (rise_of-fold schema.rises (cell_of place a) rises ∙ rise_of-cell_of_rise (rise_of (cell_of place a))));
}

pub cells_are_folded : CellsAreFolded
cells_are_folded schema role place at = record {
  of_joined = λ a b cells_a cells_b same.
      ap (fold_cell schema.rises role) (cell_of_merge schema.rises role schema.fields a.cells b.cells place cells_a cells_b at)
      ∙ (fold_cell-merge_cell schema.rises role (cell_of place a) (cell_of place b)
      ∙ (sym (merge_cell-fold_cell_left schema.rises role (cell_of place a) (cell_of place b))
      ∙ sym (merge_cell-fold_cell_right schema.rises role (fold_cell schema.rises role (cell_of place a)) (cell_of place b))));
  of_one = λ a time cells.
      ap (fold_cell schema.rises role) (cell_of_fold schema.rises role schema.fields a.cells place cells at) ∙ fold_cell-fold_cell schema.rises role (cell_of place a);
}

-- the rise of a series' folds, in order, is that of its rows
pub folds_keep_rises : FoldsKeepRises
folds_keep_rises schema rows n place key at rises cells some =
    folds_keep_totals rising_laws schema rows n (rising_in place) (λ k t. bytes_eq k key) cells some (rises_are_folded schema place at rises)

-- what a series' key alone tells, as the least and the greatest of a dimension, where joining a value with itself leaves it
pub keys_are_folded : {F : Type 0} (schema : Schema) (merge : F → F → F) (told : List ℕ → F) → ((x : F) → merge x x ≡ x) → IsFolded schema merge (λ row. told row.key)
keys_are_folded schema merge told same_stays = record {
  of_joined = λ a b cells_a cells_b same. sym (same_stays (told a.key)) ∙ ap (λ key. merge (told a.key) (told key)) same;
  of_one = λ a time cells. refl;
}
