-- Where the series of a segment stand, by their numbers, and rows by their places.
use Rattle.std.specs.Prelude.{◌≡◌, ℕ, zero, suc, ℤ, pos, ◌+ℤ◌, ◌+◌, ◌-◌, ◌^◌, ◌<◌, ◌≤◌, Bool, true, false, cond, List, [], ◌∷◌, ◌++◌, map, length, take, drop, slice_range}
use Rattle.std.specs.Str.{bytes_eq}
use Rattle.std.specs.List.{slice_get}
use Rattle.std.proofs.Common.{refl, ap, sym, subst, ◌∙◌, arith, get_or}
use Rattle.std.proofs.lemmas.Int.{ints}
use Rattle.std.proofs.lemmas.List.{length-append, length-map, drop-drop}
use Rattle.std.proofs.Math.Seq.{drop-append_seam, take-append_seam}
use Rattle.row_cells.specs.declared.schemas.Schema.{Schema}
use Rattle.row_cells.specs.declared.rows.Row.{Row}
use Rattle.row_cells.specs.declared.rows.Cell.{Cell}
use Rattle.row_cells.specs.RowLists.{documents}
use Rattle.column_pack.specs.Summary.{total_of}
use Rattle.column_block.specs.Ranges.{rows_between}
use Rattle.column_block.specs.declared.kinds.Values.{Values}
use Rattle.index_segment.specs.declared.forms.Form.{Form}
use Rattle.index_segment.specs.Columns.{cell_at, columns_at, columns_from, columns_of, columns_of_cells, form_or_bare}
use Rattle.index_segment.specs.Directory.{Run, run_of, with_key, runs_of, row_keys, keys_of, sizes_of, total}
use Rattle.index_segment.specs.Forms.{form_of, forms_of, width_of, widths}
use Rattle.row_cells.specs.Heads.{heads_in}
use Rattle.index_segment.specs.Held.{Packs, series_rows}
use Rattle.index_segment.specs.Order.{Stands}
use Rattle.index_segment.specs.Spelling.{AreColumns, IsFront, IsSegmentOf, counts_of}
use Rattle.index_segment.proofs.HeldRows.{spread_rows}
use Rattle.index_segment.proofs.Packable.{rows_short}
use Rattle.index_segment.proofs.Places.{sizes_long}
use Rattle.index_segment.proofs.Remade.{total_all, total_next}
use Rattle.index_segment.proofs.Restored.{width_is}
use Rattle.index_segment.proofs.Scanned.{keys_in_series, series_made}
use Rattle.index_segment.proofs.Series.{keys_ascend, stands, start_at, starts_long}
use Rattle.index_segment.proofs.Alike.{one_front}
use Rattle.std.proofs.lemmas.Option.{slice_get-get_or}
use Rattle.packed_lists.specs.Laws.Picking.{range-map}

-- ---- each series has a row

abbrev AreSome : List Run → Type 0
AreSome [] = Unit {0}
AreSome (run ∷ runs) = (1 ≤ run.size) × AreSome runs

with_some : (key : List ℕ) (runs : List Run) → AreSome runs → AreSome (with_key key runs)
with_some key [] some = (omega arith, tt)
with_some key (run ∷ runs) some = go (bytes_eq key run.key)
  where
    go : (b : Bool) → AreSome (cond {A = List Run} b (run_of run.key (run.size + 1) ∷ runs) (run_of key 1 ∷ run ∷ runs))
    go true = (omega arith, some.1)
    go false = (omega arith, some)

runs_some : (keys : List (List ℕ)) → AreSome (runs_of keys)
runs_some [] = tt
runs_some (key ∷ keys) = with_some key (runs_of keys) (runs_some keys)

size_some : (runs : List Run) (s : ℕ) → AreSome runs → s < length runs → 1 ≤ get_or (map (λ run. run.size) runs) s 0
size_some [] s some less = absurd (omega (arith, less))
size_some (run ∷ runs) zero some less = some.0
size_some (run ∷ runs) (suc s) some less = size_some runs s some.1 (omega (arith, less))

sizes_some : (rows : List Row) (s : ℕ) → s < length (sizes_of rows) → 1 ≤ get_or (sizes_of rows) s 0
unfolding sizes_of
sizes_some rows s less = size_some (runs_of (row_keys rows)) s (runs_some (row_keys rows)) (omega (arith, less, length-map (runs_of (row_keys rows)) (λ run. run.size)))

pub series_some : (rows : List Row) (s : ℕ) → s < length (keys_of rows) → total s (sizes_of rows) < total (s + 1) (sizes_of rows)
series_some rows s less =
    let within : s < length (sizes_of rows) = omega (arith, less, sizes_long rows) in
    let after : s + 1 ≡ suc s = omega arith in
    let next : total (s + 1) (sizes_of rows) ≡ total (suc s) (sizes_of rows) = ap (λ n. total n (sizes_of rows)) after in
    omega (arith, next, total_next s (sizes_of rows), sizes_some rows s within)

-- ---- all series have all rows

rows_total : (rows : List Row) → total (length (sizes_of rows)) (sizes_of rows) ≡ length rows
rows_total rows = ap (λ n. total n (sizes_of rows)) (sizes_long rows) ∙ (total_all (keys_of rows) (sizes_of rows) (sizes_long rows) ∙ (ap (λ ks. length ks) (spread_rows rows) ∙ length-map rows (λ row. row.key)))

-- where there is a row there is a series
pub series_there : (rows : List Row) (place : ℕ) → place < length rows → 0 < length (keys_of rows)
series_there rows place less = go (keys_of rows) (sizes_of rows) (sizes_long rows) (rows_total rows)
  where
    go : (ks : List (List ℕ)) (ns : List ℕ) → length ns ≡ length ks → total (length ns) ns ≡ length rows → 0 < length ks
    go [] [] long is = absurd (omega (arith, less, is))
    go [] (n ∷ ns) long is = absurd (omega (arith, long))
    go (k ∷ ks) ns long is = omega arith

pub documents_total : (rows : List Row) → total_of (counts_of rows) ≡ pos (documents rows)
documents_total [] = refl
documents_total (row ∷ rows) = ap (λ z. pos row.count +ℤ z) (documents_total rows) ∙ omega (arith, ints)

pub stands_at : (schema : Schema) (rows : List Row) (keys : List (List ℕ)) (starts : List ℕ) (sizes times counts : List ℤ) (columns : List Values) → Packs schema rows keys starts sizes times counts columns
    → (s : ℕ) → s < length (keys_of rows) → Stands (row_keys rows) (get_or (keys_of rows) s []) (total s (sizes_of rows)) (total (s + 1) (sizes_of rows))
stands_at schema rows keys starts sizes times counts columns p s less =
    let key = get_or (keys_of rows) s [] in
    let next : suc s ≡ s + 1 = omega arith in
    let here = stands (keys_of rows) (sizes_of rows) s key (keys_ascend rows p.rows_are.in_order) (sizes_long rows) (slice_get-get_or (keys_of rows) s [] less) in
    subst (λ n. Stands (row_keys rows) key (total s (sizes_of rows)) (total n (sizes_of rows))) next (subst (λ ks. Stands ks key (total s (sizes_of rows)) (total (suc s) (sizes_of rows))) (spread_rows rows) here)

module _ (schema : Schema) (rows : List Row) (keys : List (List ℕ)) (starts : List ℕ) (sizes times counts : List ℤ) (columns : List Values) (p : Packs schema rows keys starts sizes times counts columns) where
  pub starts_count : length starts ≡ length (keys_of rows) + 1
  starts_count = ap length p.starts_are ∙ (starts_long 0 (sizes_of rows) ∙ ap (λ n. n + 1) (sizes_long rows))

  pub start_is : (s : ℕ) → s ≤ length (keys_of rows) → get_or starts s 0 ≡ total s (sizes_of rows)
  start_is s within = ap (λ xs. get_or xs s 0) p.starts_are ∙ (start_at 0 (sizes_of rows) s 0 (omega (arith, within, sizes_long rows)) ∙ omega arith)

  pub first_start : get_or starts 0 0 ≡ 0
  first_start = start_is 0 (omega arith)

  pub last_start : get_or starts (length starts - 1) 0 ≡ length rows
  last_start =
      let at : length starts - 1 ≡ length (sizes_of rows) = omega (arith, starts_count, sizes_long rows) in
      ap (λ n. get_or starts n 0) at ∙ (start_is (length (sizes_of rows)) (omega (arith, sizes_long rows)) ∙ rows_total rows)

  pub last_among : (s : ℕ) → s < length (keys_of rows) → total (s + 1) (sizes_of rows) ≤ length rows
  last_among s less = omega (arith, (stands_at schema rows keys starts sizes times counts columns p s less).within, length-map rows (λ row. row.key))

  pub rows_few : length rows < 2 ^ 32
  rows_few = omega (arith, rows_short schema rows p.rows_are)

  pub parts_same : (i j : ℕ) (ts cs : List ℤ) → ts ≡ slice_range times i j → cs ≡ slice_range counts i j → length cs ≡ length ts
  parts_same i j ts cs ts_is cs_is =
      let part = slice_range rows i j in
      let a : length ts ≡ length part = ap length (ts_is ∙ (ap (λ xs. slice_range xs i j) p.times_are ∙ range-map (λ row. row.time) rows i j)) ∙ length-map part (λ row. row.time) in
      let b : length cs ≡ length part = ap length (cs_is ∙ (ap (λ xs. slice_range xs i j) p.counts_are ∙ range-map (λ row. pos row.count) rows i j)) ∙ length-map part (λ row. pos row.count) in
      b ∙ sym a

  -- rows of one series, put together from columns
  pub piece_is : (s i j : ℕ) (key : List ℕ) (forms : List Form) (heads : List Cell) (cols : List Values) (ts cs : List ℤ) → s < length (keys_of rows) → total s (sizes_of rows) ≤ i → j ≤ total (s + 1) (sizes_of rows)
      → key ≡ get_or (keys_of rows) s [] → forms ≡ forms_of schema → heads ≡ heads_in schema.fields key → cols ≡ map (rows_between i j) columns → ts ≡ slice_range times i j → cs ≡ slice_range counts i j
      → series_rows key forms heads cols 0 ts cs ≡ slice_range rows i j
  piece_is s i j key forms heads cols ts cs less start end key_is forms_is heads_is cols_is ts_is cs_is =
      let here : Stands (row_keys rows) key (total s (sizes_of rows)) (total (s + 1) (sizes_of rows)) = subst (λ k. Stands (row_keys rows) k (total s (sizes_of rows)) (total (s + 1) (sizes_of rows))) (sym key_is) (stands_at schema rows keys starts sizes times counts columns p s less) in
      series_made schema rows key i j forms heads cols ts cs p.mapped p.rows_are.each (keys_in_series rows key _ _ i j here start end) forms_is heads_is
      (cols_is ∙ ap (map (rows_between i j)) p.columns_are) (ts_is ∙ ap (λ xs. slice_range xs i j) p.times_are) (cs_is ∙ ap (λ xs. slice_range xs i j) p.counts_are)

-- ---- the columns of a field

ranged_behind : (cs more : List Values) (w a b : ℕ) → length cs ≡ w → slice_range (cs ++ more) (w + a) (w + b) ≡ slice_range more a b
ranged_behind cs more w a b long =
    let less : (w + b) - (w + a) ≡ b - a = omega arith in
    ap (λ n. take n (drop (w + a) (cs ++ more))) less
    ∙ ap (take (b - a)) (sym (drop-drop a w (cs ++ more)) ∙ ap (drop a) (ap (λ n. drop n (cs ++ more)) (sym long) ∙ drop-append_seam cs more))

front_taken : (cs more : List Values) (n : ℕ) → length cs ≡ n → take n (cs ++ more) ≡ cs
front_taken cs more n long = ap (λ m. take m (cs ++ more)) (sym long) ∙ take-append_seam cs more

columns_from_at : (fs : List Form) (at place : ℕ) (rows : List Row) → place < length fs → slice_range (columns_from at fs rows) (widths (take place fs)) (widths (take (suc place) fs)) ≡ columns_of_cells (form_or_bare (slice_get fs place)) (map (cell_at (at + place)) rows)
columns_from_at [] at place rows less = absurd (omega (arith, less))
columns_from_at (form ∷ fs) at zero rows less =
    let cells = columns_of_cells form (map (cell_at at) rows) in
    let here : at ≡ at + 0 = omega arith in
    front_taken cells (columns_from (at + 1) fs rows) (width_of form + 0 - 0) (width_is form (map (cell_at at) rows) ∙ omega arith)
    ∙ ap (λ n. columns_of_cells form (map (cell_at n) rows)) here
columns_from_at (form ∷ fs) at (suc place) rows less =
    let over : at + 1 + place ≡ at + suc place = omega arith in
    ranged_behind (columns_of_cells form (map (cell_at at) rows)) (columns_from (at + 1) fs rows) (width_of form) (widths (take place fs)) (widths (take (suc place) fs)) (width_is form (map (cell_at at) rows))
    ∙ (columns_from_at fs (at + 1) place rows (omega (arith, less)) ∙ ap (λ n. columns_of_cells (form_or_bare (slice_get fs place)) (map (cell_at n) rows)) over)

pub columns_there : (schema : Schema) (rows : List Row) (field : ℕ) → field < length schema.fields → slice_range (columns_of schema rows) (widths (take field (forms_of schema))) (widths (take (field + 1) (forms_of schema))) ≡ columns_at schema rows field
unfolding columns_of
columns_there schema rows field less =
    let next : field + 1 ≡ suc field = omega arith in
    let none : 0 + field ≡ field = omega arith in
    ap (λ n. slice_range (columns_from 0 (forms_of schema) rows) (widths (take field (forms_of schema))) (widths (take n (forms_of schema)))) next
    ∙ (columns_from_at (forms_of schema) 0 field rows (omega (arith, less, length-map schema.fields (λ f. form_of schema.folded schema.rises f.kind f.role)))
    ∙ ap (λ n. columns_of_cells (form_or_bare (slice_get (forms_of schema) field)) (map (cell_at n) rows)) none)

widths_within : (fs : List Form) (at place : ℕ) (rows : List Row) → widths (take place fs) ≤ length (columns_from at fs rows)
widths_within fs at zero rows = omega arith
widths_within [] at (suc place) rows = omega arith
widths_within (form ∷ fs) at (suc place) rows =
    omega (arith, widths_within fs (at + 1) place rows, width_is form (map (cell_at at) rows), length-append (columns_of_cells form (map (cell_at at) rows)) (columns_from (at + 1) fs rows))

pub columns_reach : (schema : Schema) (rows : List Row) (field : ℕ) → widths (take field (forms_of schema)) ≤ length (columns_of schema rows)
unfolding columns_of
columns_reach schema rows field = widths_within (forms_of schema) 0 field rows

widths_rise : (fs : List Form) (place : ℕ) → widths (take place fs) ≤ widths (take (suc place) fs)
widths_rise [] place = omega (arith, none place)
  where
    none : (n : ℕ) → widths (take n []) ≡ 0
    none zero = refl
    none (suc n) = refl
widths_rise (form ∷ fs) zero = omega arith
widths_rise (form ∷ fs) (suc place) = omega (arith, widths_rise fs place)

pub columns_ordered : (fs : List Form) (field : ℕ) → widths (take field fs) ≤ widths (take (field + 1) fs)
columns_ordered fs field =
    let next : field + 1 ≡ suc field = omega arith in
    subst (λ n. widths (take field fs) ≤ widths (take n fs)) (sym next) (widths_rise fs field)

-- ---- what stands behind the front of the bytes

pub columns_behind : (schema : Schema) (rows : List Row) (columns : List Values) (bytes front : List ℕ) → columns ≡ columns_of schema rows → IsSegmentOf schema rows bytes → IsFront rows front → AreColumns columns (drop (length front) bytes)
columns_behind schema rows columns bytes front are is front_is =
    let s = is.spelled in
    let same : drop (length front) bytes ≡ s.back = ap (λ (z : List ℕ). drop (length z) bytes) (one_front rows front s.front front_is s.front_is) ∙ (ap (drop (length s.front)) s.joined ∙ drop-append_seam s.front s.back) in
    subst (λ c. AreColumns c (drop (length front) bytes)) (sym are) (subst (AreColumns (columns_of schema rows)) (sym same) s.back_is)
