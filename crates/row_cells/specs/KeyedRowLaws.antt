-- The fold of rows keeps their keys and short lists.
use Rattle.std.specs.Prelude.{◌≡◌, ℕ, zero, suc, ◌+◌, ◌≤◌, ◌||◌, List, [], ◌∷◌, length, Bool, true, false, Option, Some, None}
use Rattle.std.specs.List.{slice_get}
use Rattle.std.proofs.Common.{refl, ap, ◌∙◌, sym, subst, arith, inl, inr}
use Rattle.fold_law.specs.declared.measures.Parts.{Parts}
use Rattle.fold_law.specs.declared.counters.Rise.{Rise}
use Rattle.fold_law.specs.Gauges.{join_present_parts}
use Rattle.fold_law.specs.Rises.{join_present_rises}
use Rattle.row_cells.specs.declared.schemas.Role.{Role}
use Rattle.row_cells.specs.declared.schemas.Role.TheVariants.{Time, Dimension, Gauge as GaugeRole, Counter, Label}
use Rattle.row_cells.specs.declared.schemas.Field.{Field}
use Rattle.row_cells.specs.declared.schemas.Schema.{Schema}
use Rattle.row_cells.specs.declared.rows.Cell.{Cell}
use Rattle.row_cells.specs.declared.rows.Cell.TheVariants.{Absent, One, Many, Gauge, Rise as RiseCell}
use Rattle.row_cells.specs.declared.rows.Row.{Row}
use Rattle.row_cells.specs.Dimensions.{key_bytes}
use Rattle.row_cells.specs.Each.{Each}
use Rattle.row_cells.specs.Fitting.{folded_form}
use Rattle.row_cells.specs.FitLaws.{FitsEither-length, dimensions_of-merge_cells, dimensions_of-fold_cells, merge_of_rows_fits, fold_of_row_fits}
use Rattle.row_cells.specs.KeyedRows.{IsShortList, IsRowOf}
use Rattle.row_cells.specs.Limits.{longest_key, most_documents}
use Rattle.row_cells.specs.Mapped.{HaveKey, IsDimensionAt, AreDimensionsAt, IsMapped, any_present, is_present}
use Rattle.row_cells.specs.Merging.{parts_of, cell_of_parts, rise_of, cell_of_rise, last_cell, merge_cell, fold_cell, merge_cells, fold_cells, merge_of_rows, fold_of_row}

-- ---- dimensions stay, so routing fields do

merged_dimension : (rises : Bool) (role : Role) (a b : Cell) → role ≡ Dimension → merge_cell rises role a b ≡ a
merged_dimension rises Dimension a b is = refl
merged_dimension rises Time a b is = cc
merged_dimension rises GaugeRole a b is = cc
merged_dimension rises Counter a b is = cc
merged_dimension rises Label a b is = cc

folded_dimension : (rises : Bool) (role : Role) (a : Cell) → role ≡ Dimension → fold_cell rises role a ≡ a
folded_dimension rises Dimension a is = refl
folded_dimension rises Time a is = cc
folded_dimension rises GaugeRole a is = cc
folded_dimension rises Counter a is = cc
folded_dimension rises Label a is = cc

-- the cell of a merge at the place of a dimension is the earlier one
pub merged_at : (rises : Bool) (fs : List Field) (xs ys : List Cell) (place : ℕ) → length xs ≡ length fs → length ys ≡ length fs → IsDimensionAt fs place → slice_get (merge_cells rises fs xs ys) place ≡ slice_get xs place
merged_at rises [] xs ys place long_x long_y is = absurd is
merged_at rises (f ∷ fs) [] ys place long_x long_y is = absurd (omega (arith, long_x))
merged_at rises (f ∷ fs) (x ∷ xs) [] place long_x long_y is = absurd (omega (arith, long_y))
merged_at rises (f ∷ fs) (x ∷ xs) (y ∷ ys) zero long_x long_y is = ap Some (merged_dimension rises f.role x y is)
merged_at rises (f ∷ fs) (x ∷ xs) (y ∷ ys) (suc place) long_x long_y is = merged_at rises fs xs ys place (omega (arith, long_x)) (omega (arith, long_y)) is

pub folded_at : (rises : Bool) (fs : List Field) (xs : List Cell) (place : ℕ) → length xs ≡ length fs → IsDimensionAt fs place → slice_get (fold_cells rises fs xs) place ≡ slice_get xs place
folded_at rises [] xs place long is = absurd is
folded_at rises (f ∷ fs) [] place long is = absurd (omega (arith, long))
folded_at rises (f ∷ fs) (x ∷ xs) zero long is = ap Some (folded_dimension rises f.role x is)
folded_at rises (f ∷ fs) (x ∷ xs) (suc place) long is = folded_at rises fs xs place (omega (arith, long)) is

merged_routed : (rises : Bool) (fs : List Field) (xs ys : List Cell) (places : List ℕ) → length xs ≡ length fs → length ys ≡ length fs → AreDimensionsAt fs places → any_present places (merge_cells rises fs xs ys) ≡ any_present places xs
merged_routed rises fs xs ys [] long_x long_y are = refl
merged_routed rises fs xs ys (place ∷ places) long_x long_y are =
    ap (λ c. is_present c || any_present places (merge_cells rises fs xs ys)) (merged_at rises fs xs ys place long_x long_y are.0)
    ∙ ap (λ b. is_present (slice_get xs place) || b) (merged_routed rises fs xs ys places long_x long_y are.1)

folded_routed : (rises : Bool) (fs : List Field) (xs : List Cell) (places : List ℕ) → length xs ≡ length fs → AreDimensionsAt fs places → any_present places (fold_cells rises fs xs) ≡ any_present places xs
folded_routed rises fs xs [] long are = refl
folded_routed rises fs xs (place ∷ places) long are =
    ap (λ c. is_present c || any_present places (fold_cells rises fs xs)) (folded_at rises fs xs place long are.0)
    ∙ ap (λ b. is_present (slice_get xs place) || b) (folded_routed rises fs xs places long are.1)

-- the merge of two rows has the key of the earlier one
pub merged_keyed : (schema : Schema) (xs ys : List Cell) → IsMapped schema → length xs ≡ length schema.fields → length ys ≡ length schema.fields → HaveKey schema xs → HaveKey schema (merge_cells schema.rises schema.fields xs ys)
merged_keyed schema xs ys mapped long_x long_y keyed = record {
  routed = merged_routed schema.rises schema.fields xs ys schema.routing long_x long_y mapped.routing ∙ keyed.routed;
  short = subst (λ n. n ≤ longest_key) (ap (λ ds. length (key_bytes ds)) (sym (dimensions_of-merge_cells schema.rises schema.fields xs ys (long_x ∙ sym long_y)))) keyed.short;
}

pub folded_keyed : (schema : Schema) (xs : List Cell) → IsMapped schema → length xs ≡ length schema.fields → HaveKey schema xs → HaveKey schema (fold_cells schema.rises schema.fields xs)
folded_keyed schema xs mapped long keyed = record {
  routed = folded_routed schema.rises schema.fields xs schema.routing long mapped.routing ∙ keyed.routed;
  short = subst (λ n. n ≤ longest_key) (ap (λ ds. length (key_bytes ds)) (sym (dimensions_of-fold_cells schema.rises schema.fields xs))) keyed.short;
}

-- ---- short lists

short_parts : (p : Option Parts) → IsShortList (cell_of_parts p)
short_parts None = tt
short_parts (Some p) = tt

short_rise : (p : Option Rise) → IsShortList (cell_of_rise p)
short_rise None = tt
short_rise (Some p) = tt

short_last : (a b : Cell) → IsShortList a → IsShortList b → IsShortList (last_cell a b)
short_last a Absent p q = p
short_last a (One v) p q = q
short_last a (Many vs) p q = q
short_last a (Gauge r) p q = q
short_last a (RiseCell r) p q = q

short_merged : (rises : Bool) (role : Role) (a b : Cell) → IsShortList a → IsShortList b → IsShortList (merge_cell rises role a b)
short_merged rises Time a b p q = p
short_merged rises Dimension a b p q = p
short_merged rises GaugeRole a b p q = short_parts (join_present_parts (parts_of a) (parts_of b))
short_merged true Counter a b p q = short_rise (join_present_rises (rise_of a) (rise_of b))
short_merged false Counter a b p q = short_last a b p q
short_merged rises Label a b p q = short_last a b p q

short_folded : (rises : Bool) (role : Role) (a : Cell) → IsShortList a → IsShortList (fold_cell rises role a)
short_folded rises Time a p = p
short_folded rises Dimension a p = p
short_folded rises GaugeRole a p = short_parts (parts_of a)
short_folded true Counter a p = short_rise (rise_of a)
short_folded false Counter a p = p
short_folded rises Label a p = p

pub merged_short : (rises : Bool) (fs : List Field) (xs ys : List Cell) → Each IsShortList xs → Each IsShortList ys → Each IsShortList (merge_cells rises fs xs ys)
merged_short rises [] xs ys p q = tt
merged_short rises (f ∷ fs) [] ys p q = tt
merged_short rises (f ∷ fs) (x ∷ xs) [] p q = tt
merged_short rises (f ∷ fs) (x ∷ xs) (y ∷ ys) p q = (short_merged rises f.role x y p.0 q.0, merged_short rises fs xs ys p.1 q.1)

pub folded_short : (rises : Bool) (fs : List Field) (xs : List Cell) → Each IsShortList xs → Each IsShortList (fold_cells rises fs xs)
folded_short rises [] xs p = tt
folded_short rises (f ∷ fs) [] p = tt
folded_short rises (f ∷ fs) (x ∷ xs) p = (short_folded rises f.role x p.0, folded_short rises fs xs p.1)

-- ---- rows

-- a key is one of a schema and of the folds of its rows alike
pub keyed_in_form : (schema : Schema) (folded : Bool) (cells : List Cell) → HaveKey schema cells → HaveKey (record schema { folded = folded }) cells
keyed_in_form schema folded cells keyed = record { routed = keyed.routed; short = keyed.short }

pub keyed_of_form : (schema : Schema) (folded : Bool) (cells : List Cell) → HaveKey (record schema { folded = folded }) cells → HaveKey schema cells
keyed_of_form schema folded cells keyed = record { routed = keyed.routed; short = keyed.short }

-- the fold of a row may stand in an index of folded rows
pub fold_is_row : (schema : Schema) (row : Row) → IsMapped schema → IsRowOf schema row → IsRowOf (folded_form schema) (fold_of_row schema row)
fold_is_row schema row mapped is = record {
  fits = fold_of_row_fits schema row (inl is.fits);
  keyed = keyed_in_form schema true (fold_of_row schema row).cells (folded_keyed schema row.cells mapped (FitsEither-length schema row (inl is.fits)) is.keyed);
  short = folded_short schema.rises schema.fields row.cells is.short;
}

-- and so may the fold of two folds
pub merge_is_row : (schema : Schema) (a b : Row) → IsMapped schema → IsRowOf (folded_form schema) a → IsRowOf (folded_form schema) b → a.count + b.count ≤ most_documents → IsRowOf (folded_form schema) (merge_of_rows schema a b)
merge_is_row schema a b mapped is_a is_b few = record {
  fits = merge_of_rows_fits schema a b (inr is_a.fits) (inr is_b.fits) few;
  keyed = keyed_in_form schema true (merge_of_rows schema a b).cells (merged_keyed schema a.cells b.cells mapped (FitsEither-length schema a (inr is_a.fits)) (FitsEither-length schema b (inr is_b.fits)) (keyed_of_form schema true a.cells is_a.keyed));
  short = merged_short schema.rises schema.fields a.cells b.cells is_a.short is_b.short;
}
