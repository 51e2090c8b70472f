-- Rows of one key have the same dimensions, and so the same values at these.
use Rattle.std.specs.Prelude.{◌≡◌, ℕ, zero, suc, Bool, true, List, [], ◌∷◌, length, Option, Some, None}
use Rattle.std.specs.List.{slice_get}
use Rattle.std.proofs.Common.{refl, ap, sym, ◌∙◌, subst, arith}
use Rattle.row_cells.specs.declared.rows.Cell.{Cell}
use Rattle.row_cells.specs.declared.rows.Row.{Row}
use Rattle.row_cells.specs.declared.schemas.Field.{Field}
use Rattle.row_cells.specs.declared.schemas.Role.{Role}
use Rattle.row_cells.specs.declared.schemas.Role.TheVariants.{Time as TimeRole, Dimension, Gauge, Counter, Label}
use Rattle.row_cells.specs.declared.schemas.Schema.{Schema}
use Rattle.row_cells.specs.Fitting.{CellsFit}
use Rattle.row_cells.specs.HeadLaws.{head_cell, head_cells, heads_are}
use Rattle.row_cells.specs.Heads.{heads_in}
use Rattle.row_cells.specs.Mapped.{IsMapped}
use Rattle.search_filter.specs.Matching.{has_value, is_some_value}
use Rattle.search_filter.specs.Forms.{FitsFields, in_form}
use Rattle.search_filter.specs.Splitting.{is_presence_told, teller_at, teller_by, teller_of}
use Rattle.search_filter.specs.Values.{values_at, values_by, values_in, values_under}
use Rattle.search_filter.specs.declared.tellers.Teller.TheVariants.{Key}

-- ---- what two rows of a key have in common

-- cells beside fields, which have the same dimensions
pub record HaveSameHeads (fields : List Field) (row other : Row) : Type 0 where
  pub heads : head_cells fields row.cells ≡ head_cells fields other.cells
  pub long : length row.cells ≡ length fields
  pub other_long : length other.cells ≡ length fields

cells_long : (folded rises : Bool) (n : ℕ) (fs : List Field) (cs : List Cell) → CellsFit folded rises n fs cs → length cs ≡ length fs
cells_long folded rises n [] [] fit = refl
cells_long folded rises n [] (c ∷ cs) fit = absurd fit
cells_long folded rises n (f ∷ fs) [] fit = absurd fit
cells_long folded rises n (f ∷ fs) (c ∷ cs) fit = ap suc (cells_long folded rises n fs cs fit.1)

pub form_mapped : (folded rises : Bool) (schema : Schema) → IsMapped schema → IsMapped (in_form folded rises schema)
form_mapped folded rises schema mapped = record { ascending = mapped.ascending; paths = mapped.paths; routing = mapped.routing }

heads_told : (schema : Schema) (row : Row) → IsMapped schema → (fits : FitsFields schema row) → heads_in schema.fields row.key ≡ head_cells schema.fields row.cells
heads_told schema row mapped fits = heads_are (in_form fits.is_folded fits.is_risen schema) row (form_mapped fits.is_folded fits.is_risen schema mapped) fits.fits

beside_fields : (schema : Schema) (row : Row) → (fits : FitsFields schema row) → length row.cells ≡ length schema.fields
beside_fields schema row fits = cells_long fits.is_folded fits.is_risen row.count schema.fields row.cells fits.fits.cells_fit

-- rows of one key have the same dimensions
pub keyed_alike : (schema : Schema) (row other : Row) → IsMapped schema → FitsFields schema row → FitsFields schema other → row.key ≡ other.key → HaveSameHeads schema.fields row other
keyed_alike schema row other mapped fits other_fits key = record {
  heads = sym (heads_told schema row mapped fits) ∙ (ap (heads_in schema.fields) key ∙ heads_told schema other mapped other_fits);
  long = beside_fields schema row fits;
  other_long = beside_fields schema other other_fits;
}

same_cell : (fs : List Field) (xs ys : List Cell) (place : ℕ) (f : Field) → head_cells fs xs ≡ head_cells fs ys → length xs ≡ length fs → length ys ≡ length fs → slice_get fs place ≡ Some f → f.role ≡ Dimension → slice_get xs place ≡ slice_get ys place
same_cell [] xs ys place f heads x_long y_long there role = cc
same_cell (g ∷ fs) [] ys place f heads x_long y_long there role = absurd (omega (arith, x_long))
same_cell (g ∷ fs) (x ∷ xs) [] place f heads x_long y_long there role = absurd (omega (arith, y_long))
same_cell (g ∷ fs) (x ∷ xs) (y ∷ ys) zero f heads x_long y_long there role =
    let is : g ≡ f = cc in
    let dimension : g.role ≡ Dimension = ap (λ h. h.role) is ∙ role in
    let first : head_cell g.role x ≡ head_cell g.role y = cc in
    ap Some (subst (λ r. head_cell r x ≡ head_cell r y) dimension first)
same_cell (g ∷ fs) (x ∷ xs) (y ∷ ys) (suc place) f heads x_long y_long there role =
    let rest : head_cells fs xs ≡ head_cells fs ys = cc in
    same_cell fs xs ys place f rest (omega (arith, x_long)) (omega (arith, y_long)) there role

-- what the key tells of values
pub values_told : (fields : List Field) (row other : Row) (place : ℕ) → HaveSameHeads fields row other → teller_at fields place ≡ Key → values_at fields place row ≡ values_at fields place other
values_told fields row other place same = by_field (slice_get fields place) refl
  where
    by_role : (f : Field) (role : Role) → f.role ≡ role → slice_get fields place ≡ Some f → teller_by role ≡ Key → values_by role row.time (slice_get row.cells place) ≡ values_by role other.time (slice_get other.cells place)
    by_role f TimeRole role there is = cc
    by_role f Dimension role there is = ap values_in (same_cell fields row.cells other.cells place f same.heads same.long same.other_long there role)
    by_role f Gauge role there is = cc
    by_role f Counter role there is = cc
    by_role f Label role there is = cc

    by_field : (f : Option Field) → slice_get fields place ≡ f → teller_of f ≡ Key → values_under f row.time (slice_get row.cells place) ≡ values_under f other.time (slice_get other.cells place)
    by_field None there is = refl
    by_field (Some f) there is = by_role f f.role refl there is

pub presence_told : (fields : List Field) (row other : Row) (place : ℕ) → HaveSameHeads fields row other → is_presence_told (teller_at fields place) ≡ true → has_value fields row place ≡ has_value fields other place
presence_told fields row other place same = by_field (slice_get fields place) refl
  where
    by_role : (f : Field) (role : Role) → f.role ≡ role → slice_get fields place ≡ Some f → is_presence_told (teller_by role) ≡ true →
        is_some_value (values_by role row.time (slice_get row.cells place)) ≡ is_some_value (values_by role other.time (slice_get other.cells place))
    by_role f TimeRole role there is = refl
    by_role f Dimension role there is = ap (λ c. is_some_value (values_in c)) (same_cell fields row.cells other.cells place f same.heads same.long same.other_long there role)
    by_role f Gauge role there is = cc
    by_role f Counter role there is = cc
    by_role f Label role there is = cc

    by_field : (f : Option Field) → slice_get fields place ≡ f → is_presence_told (teller_of f) ≡ true →
        is_some_value (values_under f row.time (slice_get row.cells place)) ≡ is_some_value (values_under f other.time (slice_get other.cells place))
    by_field None there is = refl
    by_field (Some f) there is = by_role f f.role refl there is
