-- A segment's bytes, piece by piece.
use Rattle.std.specs.Prelude.{◌≡◌, ℕ, pos, ◌+◌, ◌^◌, ◌<◌, Bool, true, false, cond, List, [], ◌∷◌, ◌++◌, map, length}
use Rattle.std.specs.Int.{w32, to_be_bytes}
use Rattle.std.specs.List.{flat_map}
use Rattle.std.specs.Str.{bytes_eq}
use Rattle.std.proofs.Common.{refl, ap, sym, subst, ◌∙◌, arith, append_assoc}
use Rattle.std.proofs.lemmas.List.{length-map}
use Rattle.row_cells.specs.Each.{Each}
use Rattle.row_cells.specs.declared.schemas.Schema.{Schema}
use Rattle.row_cells.specs.declared.rows.Cell.{Cell}
use Rattle.row_cells.specs.declared.rows.Row.{Row}
use Rattle.row_cells.specs.Dimensions.{IsKey, text_bytes}
use Rattle.row_cells.specs.Mapped.{IsMapped}
use Rattle.row_cells.specs.KeyedLaws.{series_is_key}
use Rattle.column_block.specs.declared.kinds.ColumnKind.{ColumnKind}
use Rattle.column_block.specs.declared.kinds.ColumnKind.TheVariants as kinds
use Rattle.column_block.specs.declared.kinds.Values.{Values}
use Rattle.column_block.specs.declared.kinds.Values.TheVariants as values
use Rattle.packed_lists.specs.Nums.{IsNums}
use Rattle.column_block.specs.Rules.{IsColumnOf, KeepsRules, kind_of, rows_of}
use Rattle.index_segment.specs.declared.forms.Form.{Form}
use Rattle.index_segment.specs.declared.forms.Form.TheVariants.{Bare, Whole, Parts, Rise, Numbers, Flags, Words}
use Rattle.index_segment.specs.Cells.{whole_in, parts_in, first_in, last_in, high_in, low_in, numbers_in, texts_in}
use Rattle.index_segment.specs.Columns.{ArePackable, cell_at, columns_from, columns_of, columns_of_cells}
use Rattle.index_segment.specs.Directory.{Run, run_of, with_key, runs_of, row_keys, keys_of, sizes_of}
use Rattle.index_segment.specs.Forms.{forms_of}
use Rattle.index_segment.specs.Parts.{AreColumnsOf, form_kinds, kinds_of}
use Rattle.row_cells.specs.KeyedRows.{AreRowsOf, IsRowOf}
use Rattle.index_segment.specs.Spelling.{AreColumns, IsSegmentOf, counted, counts_of, mark, times_of}
use Rattle.index_segment.proofs.Packable.{rows_packable, rows_short}
use Rattle.index_segment.proofs.Places.{sizes_long}
use Rattle.index_segment.proofs.Writing.{keys_short}

-- ---- keys

row_is_key : (schema : Schema) (row : Row) → IsMapped schema → IsRowOf schema row → IsKey row.key
row_is_key schema row mapped is = subst IsKey (sym is.fits.key_is) (series_is_key schema row.cells mapped (record { documents = row.count; fit = is.fits.cells_fit }) is.keyed.routed is.keyed.short)

rows_are_keys : (schema : Schema) (rows : List Row) → IsMapped schema → Each (IsRowOf schema) rows → Each IsKey (row_keys rows)
rows_are_keys schema [] mapped each = tt
rows_are_keys schema (row ∷ rows) mapped each = (row_is_key schema row mapped each.0, rows_are_keys schema rows mapped each.1)

with_keys : (key : List ℕ) (rs : List Run) → IsKey key → Each IsKey (map (λ run. run.key) rs) → Each IsKey (map (λ run. run.key) (with_key key rs))
with_keys key [] is are = (is, tt)
with_keys key (run ∷ rs) is are = go (bytes_eq key run.key)
  where
    go : (b : Bool) → Each IsKey (map (λ r. r.key) (cond {A = List Run} b (run_of run.key (run.size + 1) ∷ rs) (run_of key 1 ∷ run ∷ rs)))
    go true = are
    go false = (is, are)

runs_are_keys : (keys : List (List ℕ)) → Each IsKey keys → Each IsKey (map (λ run. run.key) (runs_of keys))
runs_are_keys [] are = tt
runs_are_keys (key ∷ keys) are = with_keys key (runs_of keys) are.0 (runs_are_keys keys are.1)

keys_are_keys : (schema : Schema) (rows : List Row) → IsMapped schema → Each (IsRowOf schema) rows → Each IsKey (keys_of rows)
unfolding keys_of
keys_are_keys schema rows mapped each = runs_are_keys (row_keys rows) (rows_are_keys schema rows mapped each)

-- ---- columns

columns_joined : (ks ls : List ColumnKind) (n : ℕ) (a b : List Values) → AreColumnsOf ks n a → AreColumnsOf ls n b → AreColumnsOf (ks ++ ls) n (a ++ b)
columns_joined [] ls n [] b p q = q
columns_joined [] ls n (x ∷ a) b p q = absurd p
columns_joined (k ∷ ks) ls n [] b p q = absurd p
columns_joined (k ∷ ks) ls n (x ∷ a) b p q = (p.0, columns_joined ks ls n a b p.1 q)

packable_front : (a b : List Values) → ArePackable (a ++ b) → ArePackable a
packable_front [] b p = tt
packable_front (x ∷ a) b p = (p.0, p.1, packable_front a b p.2)

packable_back : (a b : List Values) → ArePackable (a ++ b) → ArePackable b
packable_back [] b p = p
packable_back (x ∷ a) b p = packable_back a b p.2

two_maps : {B : Type 0} (f : Cell → B) (place : ℕ) (rows : List Row) → length (map f (map (cell_at place) rows)) ≡ length rows
two_maps f place rows = length-map (map (cell_at place) rows) f ∙ length-map rows (cell_at place)

one_kind : (kind : ColumnKind) (n : ℕ) (vs : Values) → kind_of vs ≡ kind → rows_of vs ≡ n → KeepsRules vs → IsColumnOf kind n vs
one_kind kind n vs is long rules = record { kind_is = is; rows_are = long; rules = rules }

form_columns : (form : Form) (place : ℕ) (rows : List Row) → ArePackable (columns_of_cells form (map (cell_at place) rows)) → AreColumnsOf (form_kinds form) (length rows) (columns_of_cells form (map (cell_at place) rows))
form_columns Bare place rows p = tt
form_columns Whole place rows p = (one_kind kinds.Whole (length rows) (values.Whole (map whole_in (map (cell_at place) rows))) refl (two_maps whole_in place rows) p.0, tt)
form_columns Parts place rows p = (one_kind kinds.Parts (length rows) (values.Parts (map parts_in (map (cell_at place) rows))) refl (two_maps parts_in place rows) p.0, tt)
form_columns Numbers place rows p = (one_kind kinds.Wholes (length rows) (values.Wholes (map numbers_in (map (cell_at place) rows))) refl (two_maps numbers_in place rows) p.0, tt)
form_columns Flags place rows p = (one_kind kinds.Wholes (length rows) (values.Wholes (map numbers_in (map (cell_at place) rows))) refl (two_maps numbers_in place rows) p.0, tt)
form_columns Words place rows p = (one_kind kinds.Words (length rows) (values.Words (map texts_in (map (cell_at place) rows))) refl (two_maps texts_in place rows) p.0, tt)
form_columns Rise place rows p = (
  one_kind kinds.Whole (length rows) (values.Whole (map first_in (map (cell_at place) rows))) refl (two_maps first_in place rows) p.0,
  (
    one_kind kinds.Whole (length rows) (values.Whole (map last_in (map (cell_at place) rows))) refl (two_maps last_in place rows) p.2.0,
    (
      one_kind kinds.Whole (length rows) (values.Whole (map high_in (map (cell_at place) rows))) refl (two_maps high_in place rows) p.2.2.0,
      (one_kind kinds.Whole (length rows) (values.Whole (map low_in (map (cell_at place) rows))) refl (two_maps low_in place rows) p.2.2.2.0, tt),
    ),
  ),
)

columns_kinds : (place : ℕ) (forms : List Form) (rows : List Row) → ArePackable (columns_from place forms rows) → AreColumnsOf (kinds_of forms) (length rows) (columns_from place forms rows)
columns_kinds place [] rows p = tt
columns_kinds place (form ∷ forms) rows p =
    let cells = columns_of_cells form (map (cell_at place) rows) in
    let more = columns_from (place + 1) forms rows in
    columns_joined (form_kinds form) (kinds_of forms) (length rows) cells more (form_columns form place rows (packable_front cells more p)) (columns_kinds (place + 1) forms rows (packable_back cells more p))

rows_columns : (schema : Schema) (rows : List Row) → AreRowsOf schema rows → AreColumnsOf (kinds_of (forms_of schema)) (length rows) (columns_of schema rows)
unfolding columns_of
rows_columns schema rows are = columns_kinds 0 (forms_of schema) rows (rows_packable schema rows are)

-- ---- all

pub record Layout (schema : Schema) (rows : List Row) (bytes : List ℕ) : Type 0 where
  pub size_bytes : List ℕ
  pub time_bytes : List ℕ
  pub count_bytes : List ℕ
  pub back : List ℕ
  pub rows_few : length rows < 2 ^ 32
  pub series_few : length (keys_of rows) < 2 ^ 32
  pub joined : bytes ≡ mark ++ (to_be_bytes w32 (length rows) ++ (to_be_bytes w32 (length (keys_of rows)) ++ (flat_map text_bytes (keys_of rows) ++ (size_bytes ++ (time_bytes ++ (count_bytes ++ back))))))
  pub keys : Each IsKey (keys_of rows)
  pub sizes_length : length (counted (sizes_of rows)) ≡ length (keys_of rows)
  pub times_length : length (times_of rows) ≡ length rows
  pub counts_length : length (counts_of rows) ≡ length rows
  pub sizes_are : IsNums (counted (sizes_of rows)) size_bytes
  pub times_are : IsNums (times_of rows) time_bytes
  pub counts_are : IsNums (counts_of rows) count_bytes
  pub columns_of_kinds : AreColumnsOf (kinds_of (forms_of schema)) (length rows) (columns_of schema rows)
  pub columns_are : AreColumns (columns_of schema rows) back

regroup : {A : Type 0} (m r s k a b c d : List A) → ((m ++ (r ++ (s ++ k))) ++ (a ++ (b ++ c))) ++ d ≡ m ++ (r ++ (s ++ (k ++ (a ++ (b ++ (c ++ d))))))
regroup m r s k a b c d = simp append_assoc

pub layout : (schema : Schema) (rows : List Row) (bytes : List ℕ) → IsMapped schema → IsSegmentOf schema rows bytes → Layout schema rows bytes
layout schema rows bytes mapped is =
    let f = is.spelled.front_is in
    let few = rows_short schema rows is.rows_are in
    record {
      size_bytes = f.size_bytes;
      time_bytes = f.time_bytes;
      count_bytes = f.count_bytes;
      back = is.spelled.back;
      rows_few = omega (arith, few);
      series_few = omega (arith, few, keys_short rows);
      joined = is.spelled.joined ∙ (ap (λ x. x ++ is.spelled.back) f.joined ∙ regroup mark (to_be_bytes w32 (length rows)) (to_be_bytes w32 (length (keys_of rows))) (flat_map text_bytes (keys_of rows)) f.size_bytes f.time_bytes f.count_bytes is.spelled.back);
      keys = keys_are_keys schema rows mapped is.rows_are.each;
      sizes_length = length-map (sizes_of rows) (λ n. pos n) ∙ sizes_long rows;
      times_length = length-map rows (λ row. row.time);
      counts_length = length-map rows (λ row. pos row.count);
      sizes_are = f.sizes_are;
      times_are = f.times_are;
      counts_are = f.counts_are;
      columns_of_kinds = rows_columns schema rows is.rows_are;
      columns_are = is.spelled.back_is;
    }
