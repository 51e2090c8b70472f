-- The columns of rows that are picked from two lists are picked from the columns of both.
use Rattle.std.specs.Prelude.{◌≡◌, ℕ, suc, ◌+◌, ◌-◌, ◌^◌, ◌<◌, ◌≤◌, List, [], ◌∷◌, ◌++◌, length, map, take, drop, slice_range}
use Rattle.std.proofs.Common.{refl, ap, sym, subst, ◌∙◌, arith, get_or, drop-cons, length-append}
use Rattle.std.proofs.lemmas.List.{take_all}
use Rattle.row_cells.specs.declared.schemas.Schema.{Schema}
use Rattle.row_cells.specs.declared.rows.Row.{Row}
use Rattle.row_cells.specs.declared.rows.Cell.{Cell}
use Rattle.column_block.specs.declared.kinds.Values.{Values}
use Rattle.column_block.specs.declared.kinds.Values.TheVariants as values
use Rattle.column_block.specs.Ranges.{rows_between}
use Rattle.column_block.specs.Rules.{rows_of}
use Rattle.index_segment.specs.declared.forms.Form.{Form}
use Rattle.index_segment.specs.declared.forms.Form.TheVariants.{Bare, Whole, Parts, Rise, Numbers, Flags, Words}
use Rattle.index_segment.specs.Cells.{whole_in, parts_in, first_in, last_in, high_in, low_in, numbers_in, texts_in}
use Rattle.index_segment.specs.Columns.{ArePackable, cell_at, columns_from, columns_of, columns_of_cells}
use Rattle.index_segment.specs.Forms.{forms_of}
use Rattle.index_segment.specs.Merging.{Side, picked, picked_columns, picked_values}
use Rattle.index_segment.proofs.Lists.{both}
use Rattle.index_segment.proofs.Sides.{picked_map}

module _ (ss : List Side) where
  -- the columns of a field
  of_cells : (form : Form) (a b : List Cell) → columns_of_cells form (picked ss a b) ≡ picked_columns ss (columns_of_cells form a) (columns_of_cells form b)
  of_cells Bare a b = refl
  of_cells Whole a b = ap (λ vs. values.Whole vs ∷ []) (picked_map whole_in ss a b)
  of_cells Parts a b = ap (λ vs. values.Parts vs ∷ []) (picked_map parts_in ss a b)
  of_cells Rise a b =
      both (ap values.Whole (picked_map first_in ss a b))
      (both (ap values.Whole (picked_map last_in ss a b))
      (both (ap values.Whole (picked_map high_in ss a b))
      (ap (λ vs. values.Whole vs ∷ []) (picked_map low_in ss a b))))
  of_cells Numbers a b = ap (λ vs. values.Wholes vs ∷ []) (picked_map numbers_in ss a b)
  of_cells Flags a b = ap (λ vs. values.Wholes vs ∷ []) (picked_map numbers_in ss a b)
  of_cells Words a b = ap (λ vs. values.Words vs ∷ []) (picked_map texts_in ss a b)

  -- columns that stand behind those of a field
  behind : (form : Form) (a b : List Cell) (xs ys : List Values) → picked_columns ss (columns_of_cells form a ++ xs) (columns_of_cells form b ++ ys) ≡ picked_columns ss (columns_of_cells form a) (columns_of_cells form b) ++ picked_columns ss xs ys
  behind Bare a b xs ys = refl
  behind Whole a b xs ys = refl
  behind Parts a b xs ys = refl
  behind Rise a b xs ys = refl
  behind Numbers a b xs ys = refl
  behind Flags a b xs ys = refl
  behind Words a b xs ys = refl

  from_place : (place : ℕ) (forms : List Form) (a b : List Row) → columns_from place forms (picked ss a b) ≡ picked_columns ss (columns_from place forms a) (columns_from place forms b)
  from_place place [] a b = refl
  from_place place (form ∷ forms) a b =
      ap (λ cells. columns_of_cells form cells ++ columns_from (place + 1) forms (picked ss a b)) (picked_map (cell_at place) ss a b)
      ∙ (ap (λ columns. columns ++ columns_from (place + 1) forms (picked ss a b)) (of_cells form (map (cell_at place) a) (map (cell_at place) b))
      ∙ (ap (λ columns. picked_columns ss (columns_of_cells form (map (cell_at place) a)) (columns_of_cells form (map (cell_at place) b)) ++ columns) (from_place (place + 1) forms a b)
      ∙ sym (behind form (map (cell_at place) a) (map (cell_at place) b) (columns_from (place + 1) forms a) (columns_from (place + 1) forms b))))

  -- the columns of rows from two lists
  pub columns_picked : (schema : Schema) (a b : List Row) → columns_of schema (picked ss a b) ≡ picked_columns ss (columns_of schema a) (columns_of schema b)
  unfolding columns_of
  columns_picked schema a b = from_place 0 (forms_of schema) a b

-- rows have as many columns as other rows
cells_long : (form : Form) (a b : List Cell) → length (columns_of_cells form a) ≡ length (columns_of_cells form b)
cells_long Bare a b = refl
cells_long Whole a b = refl
cells_long Parts a b = refl
cells_long Rise a b = refl
cells_long Numbers a b = refl
cells_long Flags a b = refl
cells_long Words a b = refl

from_long : (place : ℕ) (forms : List Form) (a b : List Row) → length (columns_from place forms a) ≡ length (columns_from place forms b)
from_long place [] a b = refl
from_long place (form ∷ forms) a b = omega (arith, length-append (columns_of_cells form (map (cell_at place) a)) (columns_from (place + 1) forms a), length-append (columns_of_cells form (map (cell_at place) b)) (columns_from (place + 1) forms b), cells_long form (map (cell_at place) a) (map (cell_at place) b), from_long (place + 1) forms a b)

pub columns_long : (schema : Schema) (a b : List Row) → length (columns_of schema a) ≡ length (columns_of schema b)
unfolding columns_of
columns_long schema a b = from_long 0 (forms_of schema) a b

-- ---- one column

all_rows : {A : Type 0} (xs : List A) (n : ℕ) → length xs ≤ n → slice_range xs 0 n ≡ xs
all_rows xs n few =
    let all : n - 0 ≡ n = omega arith in
    ap (λ k. take k xs) all ∙ take_all n xs few

whole_column : (v : Values) → rows_of v < 2 ^ 32 → rows_between 0 4294967295 v ≡ v
whole_column (values.Whole vs) few = ap values.Whole (all_rows vs 4294967295 (omega (arith, few)))
whole_column (values.Parts ps) few = ap values.Parts (all_rows ps 4294967295 (omega (arith, few)))
whole_column (values.Wholes lists) few = ap values.Wholes (all_rows lists 4294967295 (omega (arith, few)))
whole_column (values.Words lists) few = ap values.Words (all_rows lists 4294967295 (omega (arith, few)))

opened : (xs : List Values) (k : ℕ) (x : Values) → k < length xs → drop k xs ≡ get_or xs k x ∷ drop (k + 1) xs
opened xs k x there =
    let next : suc k ≡ k + 1 = omega arith in
    drop-cons xs k x there ∙ ap (λ i. get_or xs k x ∷ drop i xs) next

-- the next column of both
pub next_column : (ss : List Side) (first second : List Values) (k : ℕ) (x y v : Values) → k < length first → k < length second → x ≡ get_or first k x → y ≡ get_or second k y → ArePackable (drop k first) → ArePackable (drop k second) → v ≡ picked_values ss (rows_between 0 4294967295 x) (rows_between 0 4294967295 y) → picked_columns ss (drop k first) (drop k second) ≡ v ∷ picked_columns ss (drop (k + 1) first) (drop (k + 1) second)
next_column ss first second k x y v there there_too x_is y_is packable packable_too is =
    let a : drop k first ≡ x ∷ drop (k + 1) first = opened first k x there ∙ ap (λ column. column ∷ drop (k + 1) first) (sym x_is) in
    let b : drop k second ≡ y ∷ drop (k + 1) second = opened second k y there_too ∙ ap (λ column. column ∷ drop (k + 1) second) (sym y_is) in
    let few = (subst ArePackable a packable).1 in
    let few_too = (subst ArePackable b packable_too).1 in
    ap (λ columns. picked_columns ss columns (drop k second)) a
    ∙ (ap (λ columns. picked_columns ss (x ∷ drop (k + 1) first) columns) b
    ∙ ap (λ column. column ∷ picked_columns ss (drop (k + 1) first) (drop (k + 1) second)) (sym (is ∙ (ap (λ column. picked_values ss column (rows_between 0 4294967295 y)) (whole_column x few) ∙ ap (picked_values ss x) (whole_column y few_too)))))

pub packable_behind : (xs : List Values) (k : ℕ) (x : Values) → k < length xs → ArePackable (drop k xs) → ArePackable (drop (k + 1) xs)
packable_behind xs k x there packable = (subst ArePackable (opened xs k x there) packable).2
