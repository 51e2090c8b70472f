-- The cells of a row from the columns of rows.
use Rattle.std.specs.Prelude.{◌≡◌, ℕ, ℤ, zero, suc, ◌+◌, List, [], ◌∷◌, ◌++◌, map, length, drop, Option, Some}
use Rattle.std.specs.List.{slice_get}
use Rattle.std.specs.Option.{option_map}
use Rattle.std.proofs.Common.{refl, ap, sym, ◌∙◌, arith, append_assoc, length-append}
use Rattle.std.proofs.lemmas.Option.{slice_get-map}
use Rattle.row_cells.specs.declared.rows.Cell.{Cell}
use Rattle.row_cells.specs.declared.rows.Row.{Row}
use Rattle.row_cells.specs.Merging.{cell_of_parts, cell_of_rise}
use Rattle.column_block.specs.declared.kinds.Values.{Values}
use Rattle.column_block.specs.declared.kinds.Values.TheVariants as values
use Rattle.index_segment.specs.declared.forms.Form.{Form}
use Rattle.index_segment.specs.declared.forms.Form.TheVariants.{Bare, Whole, Parts as PartsForm, Rise, Numbers, Flags, Words}
use Rattle.index_segment.specs.Forms.{width_of}
use Rattle.index_segment.specs.Cells.{whole_in, parts_in, first_in, last_in, high_in, low_in, numbers_in, texts_in, cell_of_whole, rise_from, cell_of_numbers, cell_of_flags, cell_of_texts}
use Rattle.index_segment.specs.Columns.{cell_at, cell_or_absent, cell_from, cells_from, columns_from, columns_of_cells, present_at, list_at, whole_at, parts_at, numbers_at, texts_at}
use Rattle.index_segment.proofs.Lists.{both}

-- what the columns of a form have for a cell gives the cell back; without columns the key does
abbrev pub KeptIn : Form → Cell → Cell → Type 0
KeptIn Bare head cell = head ≡ cell
KeptIn Whole head cell = cell_of_whole (whole_in cell) ≡ cell
KeptIn PartsForm head cell = cell_of_parts (parts_in cell) ≡ cell
KeptIn Rise head cell = cell_of_rise (rise_from (first_in cell) (last_in cell) (high_in cell) (low_in cell)) ≡ cell
KeptIn Numbers head cell = cell_of_numbers (numbers_in cell) ≡ cell
KeptIn Flags head cell = cell_of_flags (numbers_in cell) ≡ cell
KeptIn Words head cell = cell_of_texts (texts_in cell) ≡ cell

abbrev pub AllKept : List Form → List Cell → List Cell → Type 0
AllKept [] [] [] = Unit {0}
AllKept (form ∷ forms) (head ∷ heads) (cell ∷ cells) = KeptIn form head cell × AllKept forms heads cells
AllKept forms heads cells = ⊥

pub behind : {A : Type 0} (front xs : List A) (n : ℕ) → slice_get (front ++ xs) (length front + n) ≡ slice_get xs n
behind [] xs n = ap (slice_get xs) (omega arith)
behind {A} (x ∷ front) xs n = ap (slice_get (x ∷ (front ++ xs))) next ∙ behind front xs n
  where
    next : length (x ∷ front) + n ≡ suc (length front + n)
    next = omega arith

module _ (columns front more : List Values) (at k : ℕ) (cells : List Cell) (cell : Cell) (at_is : at ≡ length front) (there : slice_get cells k ≡ Some cell) where
  -- the column that stands n behind the front
  at_column : (n : ℕ) (xs : List Values) (column : Values) → columns ≡ front ++ xs → slice_get xs n ≡ Some column → slice_get columns (at + n) ≡ Some column
  at_column n xs column is here = ap (λ cs. slice_get cs (at + n)) is ∙ (ap (λ a. slice_get (front ++ xs) (a + n)) at_is ∙ (behind front xs n ∙ here))

  got : {B : Type 0} (f : Cell → B) → slice_get (map f cells) k ≡ Some (f cell)
  got f = slice_get-map f cells k ∙ ap (option_map f) there

  whole_back : (h : Cell → Option ℤ) (place : ℕ) → slice_get columns place ≡ Some (values.Whole (map h cells)) → whole_at (slice_get columns place) k ≡ h cell
  whole_back h place is = ap (λ o. whole_at o k) is ∙ ap present_at (got h)

  parts_back : (place : ℕ) → slice_get columns place ≡ Some (values.Parts (map parts_in cells)) → parts_at (slice_get columns place) k ≡ parts_in cell
  parts_back place is = ap (λ o. parts_at o k) is ∙ ap present_at (got parts_in)

  numbers_back : (place : ℕ) → slice_get columns place ≡ Some (values.Wholes (map numbers_in cells)) → numbers_at (slice_get columns place) k ≡ numbers_in cell
  numbers_back place is = ap (λ o. numbers_at o k) is ∙ ap list_at (got numbers_in)

  texts_back : (place : ℕ) → slice_get columns place ≡ Some (values.Words (map texts_in cells)) → texts_at (slice_get columns place) k ≡ texts_in cell
  texts_back place is = ap (λ o. texts_at o k) is ∙ ap list_at (got texts_in)

  first_place : (xs : List Values) (column : Values) → columns ≡ front ++ xs → slice_get xs 0 ≡ Some column → slice_get columns at ≡ Some column
  first_place xs column is here = ap (slice_get columns) zeroth ∙ at_column 0 xs column is here
    where
      zeroth : at ≡ at + 0
      zeroth = omega arith

  rise_back : columns ≡ front ++ (columns_of_cells Rise cells ++ more) → cell_from Rise cell columns at k ≡ cell_of_rise (rise_from (first_in cell) (last_in cell) (high_in cell) (low_in cell))
  rise_back is =
      let xs = columns_of_cells Rise cells ++ more in
      let a : whole_at (slice_get columns at) k ≡ first_in cell = whole_back first_in at (first_place xs (values.Whole (map first_in cells)) is refl) in
      let b : whole_at (slice_get columns (at + 1)) k ≡ last_in cell = whole_back last_in (at + 1) (at_column 1 xs (values.Whole (map last_in cells)) is refl) in
      let c : whole_at (slice_get columns (at + 2)) k ≡ high_in cell = whole_back high_in (at + 2) (at_column 2 xs (values.Whole (map high_in cells)) is refl) in
      let d : whole_at (slice_get columns (at + 3)) k ≡ low_in cell = whole_back low_in (at + 3) (at_column 3 xs (values.Whole (map low_in cells)) is refl) in
      ap (λ v. cell_of_rise (rise_from v (whole_at (slice_get columns (at + 1)) k) (whole_at (slice_get columns (at + 2)) k) (whole_at (slice_get columns (at + 3)) k))) a
      ∙ (ap (λ v. cell_of_rise (rise_from (first_in cell) v (whole_at (slice_get columns (at + 2)) k) (whole_at (slice_get columns (at + 3)) k))) b
      ∙ (ap (λ v. cell_of_rise (rise_from (first_in cell) (last_in cell) v (whole_at (slice_get columns (at + 3)) k))) c
      ∙ ap (λ v. cell_of_rise (rise_from (first_in cell) (last_in cell) (high_in cell) v)) d))

  pub cell_back : (form : Form) (head : Cell) → columns ≡ front ++ (columns_of_cells form cells ++ more) → KeptIn form head cell → cell_from form head columns at k ≡ cell
  cell_back Bare head is kept = kept
  cell_back Whole head is kept = ap cell_of_whole (whole_back whole_in at (first_place (columns_of_cells Whole cells ++ more) (values.Whole (map whole_in cells)) is refl)) ∙ kept
  cell_back PartsForm head is kept = ap cell_of_parts (parts_back at (first_place (columns_of_cells PartsForm cells ++ more) (values.Parts (map parts_in cells)) is refl)) ∙ kept
  cell_back Rise head is kept = rise_back is ∙ kept
  cell_back Numbers head is kept = ap cell_of_numbers (numbers_back at (first_place (columns_of_cells Numbers cells ++ more) (values.Wholes (map numbers_in cells)) is refl)) ∙ kept
  cell_back Flags head is kept = ap cell_of_flags (numbers_back at (first_place (columns_of_cells Flags cells ++ more) (values.Wholes (map numbers_in cells)) is refl)) ∙ kept
  cell_back Words head is kept = ap cell_of_texts (texts_back at (first_place (columns_of_cells Words cells ++ more) (values.Words (map texts_in cells)) is refl)) ∙ kept

pub width_is : (form : Form) (cells : List Cell) → length (columns_of_cells form cells) ≡ width_of form
width_is Bare cells = refl
width_is Whole cells = refl
width_is PartsForm cells = refl
width_is Rise cells = refl
width_is Numbers cells = refl
width_is Flags cells = refl
width_is Words cells = refl

record Dropped (cells cs : List Cell) (place : ℕ) (c : Cell) : Type 0 where
  pub here : cell_or_absent (slice_get cells place) ≡ c
  pub rest : drop (place + 1) cells ≡ cs

dropped : (cells : List Cell) (place : ℕ) (c : Cell) (cs : List Cell) → drop place cells ≡ c ∷ cs → Dropped cells cs place c
dropped [] zero c cs is = cc
dropped [] (suc place) c cs is = cc
dropped (x ∷ cells) zero c cs is = record { here = cc; rest = cc }
dropped (x ∷ cells) (suc place) c cs is =
    let d = dropped cells place c cs is in
    record { here = d.here; rest = ap (λ n. drop n (x ∷ cells)) next ∙ d.rest }
  where
    next : suc place + 1 ≡ suc (place + 1)
    next = omega arith

-- the cells of row k from a place on
pub cells_back : (forms : List Form) (heads cs : List Cell) (place at k : ℕ) (front columns : List Values) (rows : List Row) (row : Row) → columns ≡ front ++ columns_from place forms rows → at ≡ length front → slice_get rows k ≡ Some row → drop place row.cells ≡ cs → AllKept forms heads cs → cells_from forms heads columns at k ≡ cs
cells_back [] [] [] place at k front columns rows row is at_is there rest kept = refl
cells_back [] [] (c ∷ cs) place at k front columns rows row is at_is there rest kept = absurd kept
cells_back [] (h ∷ heads) cs place at k front columns rows row is at_is there rest kept = absurd kept
cells_back (f ∷ forms) [] cs place at k front columns rows row is at_is there rest kept = absurd kept
cells_back (f ∷ forms) (h ∷ heads) [] place at k front columns rows row is at_is there rest kept = absurd kept
cells_back (f ∷ forms) (h ∷ heads) (c ∷ cs) place at k front columns rows row is at_is there rest kept =
    let d = dropped row.cells place c cs rest in
    let cells = map (cell_at place) rows in
    let more = columns_from (place + 1) forms rows in
    let got : slice_get cells k ≡ Some c = slice_get-map (cell_at place) rows k ∙ (ap (option_map (cell_at place)) there ∙ ap Some d.here) in
    let here : cell_from f h columns at k ≡ c = cell_back columns front more at k cells c at_is got f h is kept.0 in
    let next : columns ≡ (front ++ columns_of_cells f cells) ++ more = is ∙ sym (append_assoc front (columns_of_cells f cells) more) in
    let long : at + width_of f ≡ length (front ++ columns_of_cells f cells) = omega (arith, at_is, length-append front (columns_of_cells f cells), width_is f cells) in
    let behind : cells_from forms heads columns (at + width_of f) k ≡ cs = cells_back forms heads cs (place + 1) (at + width_of f) k (front ++ columns_of_cells f cells) columns rows row next long there d.rest kept.1 in
    both here behind
