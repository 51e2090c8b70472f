-- What a row's fitting doesn't depend on, and how large its numbers are.
use Rattle.std.specs.Prelude.{◌≡◌, ℕ, zero, suc, ◌*◌, ◌≤◌, ◌^◌, List, [], ◌∷◌, Bool, false, Some, max}
use Rattle.std.specs.List.{slice_get}
use Rattle.std.proofs.Common.{arith, subst}
use Rattle.row_cells.specs.declared.schemas.FieldType.{FieldType}
use Rattle.row_cells.specs.declared.schemas.Role.{Role}
use Rattle.row_cells.specs.declared.schemas.Role.TheVariants.{Time, Dimension, Gauge as GaugeRole, Counter, Label}
use Rattle.row_cells.specs.declared.schemas.Field.{Field}
use Rattle.row_cells.specs.declared.schemas.Schema.{Schema}
use Rattle.row_cells.specs.declared.rows.Cell.{Cell}
use Rattle.row_cells.specs.declared.rows.Row.{Row}
use Rattle.row_cells.specs.Fitting.{CellFits, CellsFit, Fits, FitsEither}
use Rattle.row_cells.specs.FitLaws.{either_form, parts_reach, gauge_parts_fit, rise_reach, counter_rise_fits}
use Rattle.row_cells.specs.Merging.{parts_of, rise_of}
use Rattle.row_cells.specs.Reach.{reach_of_cell, reach_of_cells, reach_of_row}

-- ---- a raw row fits whether the schema's folds keep rises or not

raw_cell : (a b : Bool) (kind : FieldType) (role : Role) (documents : ℕ) (cell : Cell) → CellFits false a kind role documents cell → CellFits false b kind role documents cell
raw_cell a b kind Time documents cell fits = fits
raw_cell a b kind Dimension documents cell fits = fits
raw_cell a b kind GaugeRole documents cell fits = fits
raw_cell a b kind Counter documents cell fits = fits
raw_cell a b kind Label documents cell fits = fits

raw_cells : (a b : Bool) (documents : ℕ) (fs : List Field) (cs : List Cell) → CellsFit false a documents fs cs → CellsFit false b documents fs cs
raw_cells a b documents [] [] fit = tt
raw_cells a b documents [] (c ∷ cs) fit = absurd fit
raw_cells a b documents (f ∷ fs) [] fit = absurd fit
raw_cells a b documents (f ∷ fs) (c ∷ cs) fit = (raw_cell a b f.kind f.role documents c fit.0, raw_cells a b documents fs cs fit.1)

pub raw_fits : (schema : Schema) (a b : Bool) (row : Row) → Fits (record schema { folded = false; rises = a }) row → Fits (record schema { folded = false; rises = b }) row
raw_fits schema a b row fits = record {
  cells_fit = raw_cells a b row.count schema.fields row.cells fits.cells_fit;
  key_is = fits.key_is;
  instant = fits.instant;
  counted = fits.counted;
  count_within = fits.count_within;
  alone = fits.alone;
}

-- ---- numbers

cell_reach : (folded rises : Bool) (kind : FieldType) (role : Role) (n : ℕ) (cell : Cell) → 1 ≤ n → CellFits folded rises kind role n cell → reach_of_cell role cell ≤ n * 2 ^ 66
cell_reach folded rises kind Time n cell some fits = omega arith
cell_reach folded rises kind Dimension n cell some fits = omega arith
cell_reach folded rises kind GaugeRole n cell some fits = omega (arith, parts_reach kind n (parts_of cell) (gauge_parts_fit folded kind n cell some fits))
cell_reach folded rises kind Counter n cell some fits = omega (arith, rise_reach kind n (rise_of cell) some (counter_rise_fits folded rises kind n cell fits))
cell_reach folded rises kind Label n cell some fits = omega arith

both_within : (a b most : ℕ) → a ≤ most → b ≤ most → max a b ≤ most
both_within a b most p q = omega (arith, p, q)

cells_reach : (folded rises : Bool) (n : ℕ) (fs : List Field) (cs : List Cell) → 1 ≤ n → CellsFit folded rises n fs cs → reach_of_cells fs cs ≤ n * 2 ^ 66
cells_reach folded rises n [] [] some fit = omega arith
cells_reach folded rises n [] (c ∷ cs) some fit = absurd fit
cells_reach folded rises n (f ∷ fs) [] some fit = absurd fit
cells_reach folded rises n (f ∷ fs) (c ∷ cs) some fit =
    both_within (reach_of_cell f.role c) (reach_of_cells fs cs) (n * 2 ^ 66) (cell_reach folded rises f.kind f.role n c some fit.0) (cells_reach folded rises n fs cs some fit.1)

-- the numbers of a row have 66 bits for each document that it stands for
pub row_reach : (schema : Schema) (row : Row) → FitsEither schema row → reach_of_row schema row ≤ row.count * 2 ^ 66
row_reach schema row fits = let f = either_form schema row fits in cells_reach f.folded schema.rises row.count schema.fields row.cells f.counted f.cells_fit

first_within : (a b : ℕ) → a ≤ max a b
first_within a b = omega arith

later_within : (a b c : ℕ) → a ≤ c → a ≤ max b c
later_within a b c p = omega (arith, p)

-- no cell's reach is above the row's
pub reach_at : (fs : List Field) (cs : List Cell) (place : ℕ) (f : Field) (c : Cell) → slice_get fs place ≡ Some f → slice_get cs place ≡ Some c → reach_of_cell f.role c ≤ reach_of_cells fs cs
reach_at [] cs place f c is_f is_c = cc
reach_at (g ∷ fs) [] place f c is_f is_c = cc
reach_at (g ∷ fs) (d ∷ cs) zero f c is_f is_c =
    subst (λ h. reach_of_cell h.role c ≤ reach_of_cells (g ∷ fs) (d ∷ cs)) (some_is is_f) (subst (λ e. reach_of_cell g.role e ≤ reach_of_cells (g ∷ fs) (d ∷ cs)) (some_is is_c) (first_within (reach_of_cell g.role d) (reach_of_cells fs cs)))
  where
    some_is : {A : Type 0} {x y : A} → Some x ≡ Some y → x ≡ y
    some_is e = cc
reach_at (g ∷ fs) (d ∷ cs) (suc place) f c is_f is_c = later_within (reach_of_cell f.role c) (reach_of_cell g.role d) (reach_of_cells fs cs) (reach_at fs cs place f c is_f is_c)
