-- Lists that are alike are alike beside the fields of a wider schema.
use Rattle.std.specs.Prelude.{◌≡◌, ℕ, zero, suc, ℤ, ◌⊎◌, ◌&&◌, ◌+◌, Bool, true, false, cond, if◌then◌else◌, List, [], ◌∷◌, map, filter, length, slice_index_or, Some}
use Rattle.std.specs.List.{slice_get}
use Rattle.std.specs.Str.{bytes_eq}
use Rattle.std.specs.Ordering.{is_le, int_eq}
use Rattle.std.proofs.Common.{refl, ap, ◌∙◌, sym, subst, inl, inr, arith}
use Rattle.time_text.specs.Bucket.{bucket_start}
use Rattle.fold_law.specs.declared.measures.Gauge.{Gauge as GaugeFold}
use Rattle.fold_law.specs.declared.counters.Rising.{Rising}
use Rattle.fold_law.specs.Gauges.{no_gauge, merge_gauges}
use Rattle.fold_law.specs.Rises.{no_rise, merge_risings}
use Rattle.row_cells.specs.declared.schemas.Role.{Role}
use Rattle.row_cells.specs.declared.schemas.Role.TheVariants.{Gauge, Counter}
use Rattle.row_cells.specs.declared.schemas.Field.{Field}
use Rattle.row_cells.specs.declared.rows.Cell.{Cell}
use Rattle.row_cells.specs.declared.rows.Cell.TheVariants.{Absent}
use Rattle.row_cells.specs.declared.rows.Row.{Row}
use Rattle.row_cells.specs.Each.{Each}
use Rattle.row_cells.specs.Merging.{parts_of, rise_of}
use Rattle.row_cells.specs.Order.{row_cmp}
use Rattle.row_cells.specs.RowLists.{documents, insert_row, in_row_order}
use Rattle.row_cells.specs.Widening.{cell_at, widen_cells}
use Rattle.row_cells.specs.OrderLaws.{in_row_order-each}
use Rattle.downsample_fold.specs.Totals.{total_over}
use Rattle.row_cells.specs.Mapped.{IsRoleAt}
use Rattle.downsample_fold.specs.Measures.{gauge_in, rising_in}
use Rattle.histogram_aggs.specs.Sets.{Among}
use Rattle.histogram_aggs.specs.Samples.{Sample, rows_in, documents_in}
use Rattle.histogram_aggs.specs.Metrics.{gauge_all, of_window, rise_in_order}
use Rattle.histogram_aggs.specs.Alike.{Choice, Keeps, pick}
use Rattle.histogram_aggs.specs.Laws.{Widens, AlikeWiden, wide as wide_of, wide_row as wide_row_of}

-- ---- the place of a wide field among the narrow ones

-- the cells at this place, whatever they are
abbrev IsCellOf : List ℕ → List Field → ℕ → Type 0
IsCellOf path fs place = (cs : List Cell) → length cs ≡ length fs → cell_at path fs cs ≡ slice_index_or cs place Absent

abbrev HasNone : List ℕ → List Field → Type 0
HasNone path fs = (cs : List Cell) → length cs ≡ length fs → cell_at path fs cs ≡ Absent

record IsFound (role : Role) (path : List ℕ) (fs : List Field) : Type 0 where
  place : ℕ
  field : Field
  there : slice_get fs place ≡ Some field
  same_path : bytes_eq path field.path ≡ true
  at : IsRoleAt role fs place
  cell : IsCellOf path fs place

find : (role : Role) (path : List ℕ) (fs : List Field) → Each (λ f. bytes_eq path f.path ≡ true → f.role ≡ role) fs → IsFound role path fs ⊎ HasNone path fs
find role path [] each = inr (λ cs same. refl)
find role path (f ∷ fs) each = by_test (bytes_eq path f.path) refl (find role path fs each.1)
  where
    here : bytes_eq path f.path ≡ true → IsCellOf path (f ∷ fs) zero
    here is [] same = refl
    here is (c ∷ cs) same = rw is refl

    later : bytes_eq path f.path ≡ false → (place : ℕ) → IsCellOf path fs place → IsCellOf path (f ∷ fs) (suc place)
    later is place cell [] same = refl
    later is place cell (c ∷ cs) same = rw is (cell cs (omega (arith, same)))

    nowhere : bytes_eq path f.path ≡ false → HasNone path fs → HasNone path (f ∷ fs)
    nowhere is none [] same = refl
    nowhere is none (c ∷ cs) same = rw is (none cs (omega (arith, same)))

    by_test : (b : Bool) → bytes_eq path f.path ≡ b → IsFound role path fs ⊎ HasNone path fs → IsFound role path (f ∷ fs) ⊎ HasNone path (f ∷ fs)
    by_test true is rest = inl (record { place = zero; field = f; there = refl; same_path = is; at = each.0 is; cell = here is })
    by_test false is (inl found) = inl (record { place = suc found.place; field = found.field; there = found.there; same_path = found.same_path; at = found.at; cell = later is found.place found.cell })
    by_test false is (inr none) = inr (nowhere is none)

record IsWideAt (role : Role) (ts : List Field) (place : ℕ) : Type 0 where
  field : Field
  there : slice_get ts place ≡ Some field
  among : Among field ts
  has_role : field.role ≡ role
  cell : (fs : List Field) (cs : List Cell) → slice_index_or (widen_cells fs cs ts) place Absent ≡ cell_at field.path fs cs

wide-at : (role : Role) (ts : List Field) (place : ℕ) → IsRoleAt role ts place → IsWideAt role ts place
wide-at role [] place at = absurd at
wide-at role (t ∷ ts) zero at = record { field = t; there = refl; among = inl refl; has_role = at; cell = λ fs cs. refl }
wide-at role (t ∷ ts) (suc place) at =
    let later = wide-at role ts place at in
    record { field = later.field; there = later.there; among = inr later.among; has_role = later.has_role; cell = later.cell }

-- ---- widened samples

module _ (fs ts : List Field) where
  abbrev wide_row : Row → Row
  wide_row row = wide_row_of fs ts row

  abbrev wide : Sample → Sample
  wide s = wide_of fs ts s

  abbrev HasAll : Row → Type 0
  HasAll row = length row.cells ≡ length fs

  filter-wide : (p : Sample → Bool) (xs : List Sample) → ((s : Sample) → p (wide s) ≡ p s) → filter p (map wide xs) ≡ map wide (filter p xs)
  filter-wide p [] same = refl
  filter-wide p (s ∷ xs) same = ap (λ b. cond b (wide s ∷ filter p (map wide xs)) (filter p (map wide xs))) (same s) ∙ by_test (p s) (filter-wide p xs same)
    where
      by_test : (b : Bool) → filter p (map wide xs) ≡ map wide (filter p xs) → cond b (wide s ∷ filter p (map wide xs)) (filter p (map wide xs)) ≡ map wide (cond b (s ∷ filter p xs) (filter p xs))
      by_test true later = ap (λ ys. wide s ∷ ys) later
      by_test false later = later

  pick-wide : (n : ℕ) (c : Choice) (xs : List Sample) → pick n c (map wide xs) ≡ map wide (pick n c xs)
  pick-wide n c xs = filter-wide (λ s. c s.row.key s.start (bucket_start n s.row.time)) xs (λ s. refl)

  window-wide : (key : List ℕ) (start : ℤ) (xs : List Sample) → of_window key start (map wide xs) ≡ map wide (of_window key start xs)
  window-wide key start xs = filter-wide (λ s. bytes_eq s.row.key key && int_eq s.start start) xs (λ s. refl)

  rows-wide : (xs : List Sample) → rows_in (map wide xs) ≡ map wide_row (rows_in xs)
  rows-wide [] = refl
  rows-wide (s ∷ xs) = ap (λ rs. wide_row s.row ∷ rs) (rows-wide xs)

  documents-wide : (rows : List Row) → documents (map wide_row rows) ≡ documents rows
  documents-wide [] = refl
  documents-wide (row ∷ rows) = ap (λ k. row.count + k) (documents-wide rows)

  insert-wide : (row : Row) (rows : List Row) → insert_row (wide_row row) (map wide_row rows) ≡ map wide_row (insert_row row rows)
  insert-wide row [] = refl
  insert-wide row (first ∷ rest) = by_test (is_le (row_cmp row first)) (insert-wide row rest)
    where
      by_test : (b : Bool) → insert_row (wide_row row) (map wide_row rest) ≡ map wide_row (insert_row row rest) → (if b then wide_row row ∷ wide_row first ∷ map wide_row rest else wide_row first ∷ insert_row (wide_row row) (map wide_row rest)) ≡ map wide_row (if b then row ∷ first ∷ rest else first ∷ insert_row row rest)
      by_test true later = refl
      by_test false later = ap (λ rs. wide_row first ∷ rs) later

  order-wide : (rows : List Row) → in_row_order (map wide_row rows) ≡ map wide_row (in_row_order rows)
  order-wide [] = refl
  order-wide (row ∷ rows) = ap (insert_row (wide_row row)) (order-wide rows) ∙ insert-wide row (in_row_order rows)

  total-same : {F : Type 0} (none : F) (merge : F → F → F) (f g : Row → F) (rows : List Row) → ((row : Row) → HasAll row → f (wide_row row) ≡ g row) → Each HasAll rows → total_over none merge f (map wide_row rows) ≡ total_over none merge g rows
  total-same none merge f g [] same all = refl
  total-same none merge f g (row ∷ rows) same all = rw (same row all.0, total-same none merge f g rows same all.1) refl

  -- two lists have one total, where each value of a wide row is one of the row, or the same for all rows
  both-totals : {F : Type 0} (none : F) (merge : F → F → F) (f g : Row → F) (xs ys : List Row) → ((row : Row) → HasAll row → f (wide_row row) ≡ g row) → Each HasAll xs → Each HasAll ys
      → total_over none merge g xs ≡ total_over none merge g ys → total_over none merge f (map wide_row xs) ≡ total_over none merge f (map wide_row ys)
  both-totals none merge f g xs ys same all_x all_y one = total-same none merge f g xs same all_x ∙ (one ∙ sym (total-same none merge f g ys same all_y))

  total-none : {F : Type 0} (none : F) (merge : F → F → F) (f : Row → F) (rows : List Row) → merge none none ≡ none → ((row : Row) → HasAll row → f (wide_row row) ≡ none) → Each HasAll rows → total_over none merge f (map wide_row rows) ≡ none
  total-none none merge f [] unit same all = refl
  total-none none merge f (row ∷ rows) unit same all = rw (same row all.0, total-none none merge f rows unit same all.1) unit

  all-filter : (p : Sample → Bool) (xs : List Sample) → Each HasAll (rows_in xs) → Each HasAll (rows_in (filter p xs))
  all-filter p [] all = tt
  all-filter p (s ∷ xs) all = by_test (p s) (all-filter p xs all.1)
    where
      by_test : (b : Bool) → Each HasAll (rows_in (filter p xs)) → Each HasAll (rows_in (cond b (s ∷ filter p xs) (filter p xs)))
      by_test true later = (all.0, later)
      by_test false later = later

  found-for : {keeps wide_keeps : Keeps} (role : Role) → Widens fs ts keeps wide_keeps → (at : ℕ) → (w : IsWideAt role ts at) → IsFound role w.field.path fs ⊎ HasNone w.field.path fs
  found-for role widens at w = find role w.field.path fs (subst (λ r. Each (λ f. bytes_eq w.field.path f.path ≡ true → f.role ≡ r) fs) w.has_role (widens.roles w.field w.among))

  gauge-of : Cell → GaugeFold
  gauge-of cell = record { 0 = parts_of cell }

  rising-of : Cell → Rising
  rising-of cell = record { 0 = rise_of cell }

  same-gauges : {keeps wide_keeps : Keeps} (at : ℕ) (xs ys : List Sample) → Widens fs ts keeps wide_keeps → IsRoleAt Gauge ts at → wide_keeps at ≡ true → Each HasAll (rows_in xs) → Each HasAll (rows_in ys)
      → ((place : ℕ) → IsRoleAt Gauge fs place → keeps place ≡ true → gauge_all place xs ≡ gauge_all place ys) → gauge_all at (map wide xs) ≡ gauge_all at (map wide ys)
  unfolding gauge-of
  same-gauges at xs ys widens is_gauge kept all_x all_y narrow =
      ap (total_over no_gauge merge_gauges (gauge_in at)) (rows-wide xs) ∙ (by_case (found-for Gauge widens at w) ∙ sym (ap (total_over no_gauge merge_gauges (gauge_in at)) (rows-wide ys)))
    where
      w : IsWideAt Gauge ts at
      w = wide-at Gauge ts at is_gauge

      by_case : IsFound Gauge w.field.path fs ⊎ HasNone w.field.path fs → total_over no_gauge merge_gauges (gauge_in at) (map wide_row (rows_in xs)) ≡ total_over no_gauge merge_gauges (gauge_in at) (map wide_row (rows_in ys))
      by_case (inl found) =
          both-totals no_gauge merge_gauges (gauge_in at) (gauge_in found.place) (rows_in xs) (rows_in ys) (λ row all. ap gauge-of (w.cell fs row.cells ∙ found.cell row.cells all)) all_x all_y (narrow found.place found.at (widens.kept w.field found.field at found.place w.there found.there found.same_path kept))
      by_case (inr none) =
          let nothing = λ (row : Row) (all : HasAll row). ap gauge-of (w.cell fs row.cells ∙ none row.cells all) in
          total-none no_gauge merge_gauges (gauge_in at) (rows_in xs) refl nothing all_x ∙ sym (total-none no_gauge merge_gauges (gauge_in at) (rows_in ys) refl nothing all_y)

  same-rises : {keeps wide_keeps : Keeps} (at : ℕ) (xs ys : List Sample) → Widens fs ts keeps wide_keeps → IsRoleAt Counter ts at → wide_keeps at ≡ true → Each HasAll (rows_in xs) → Each HasAll (rows_in ys)
      → ((place : ℕ) → IsRoleAt Counter fs place → keeps place ≡ true → rise_in_order place xs ≡ rise_in_order place ys) → rise_in_order at (map wide xs) ≡ rise_in_order at (map wide ys)
  unfolding rising-of
  same-rises at xs ys widens is_counter kept all_x all_y narrow =
      ap (total_over no_rise merge_risings (rising_in at)) (ap in_row_order (rows-wide xs) ∙ order-wide (rows_in xs))
      ∙ (by_case (found-for Counter widens at w) ∙ sym (ap (total_over no_rise merge_risings (rising_in at)) (ap in_row_order (rows-wide ys) ∙ order-wide (rows_in ys))))
    where
      w : IsWideAt Counter ts at
      w = wide-at Counter ts at is_counter

      sorted : (zs : List Sample) → Each HasAll (rows_in zs) → Each HasAll (in_row_order (rows_in zs))
      sorted zs all = in_row_order-each HasAll (rows_in zs) all

      by_case : IsFound Counter w.field.path fs ⊎ HasNone w.field.path fs → total_over no_rise merge_risings (rising_in at) (map wide_row (in_row_order (rows_in xs))) ≡ total_over no_rise merge_risings (rising_in at) (map wide_row (in_row_order (rows_in ys)))
      by_case (inl found) =
          both-totals no_rise merge_risings (rising_in at) (rising_in found.place) (in_row_order (rows_in xs)) (in_row_order (rows_in ys)) (λ row all. ap rising-of (w.cell fs row.cells ∙ found.cell row.cells all)) (sorted xs all_x) (sorted ys all_y)
          (narrow found.place found.at (widens.kept w.field found.field at found.place w.there found.there found.same_path kept))
      by_case (inr none) =
          let nothing = λ (row : Row) (all : HasAll row). ap rising-of (w.cell fs row.cells ∙ none row.cells all) in
          total-none no_rise merge_risings (rising_in at) (in_row_order (rows_in xs)) refl nothing (sorted xs all_x) ∙ sym (total-none no_rise merge_risings (rising_in at) (in_row_order (rows_in ys)) refl nothing (sorted ys all_y))

pub alike_widen : AlikeWiden
alike_widen n fs ts head wide_head keeps wide_keeps xs ys widens all_x all_y first second alike = record {
  first = first;
  second = second;
  counts = λ c. counted c xs ∙ (alike.counts c ∙ sym (counted c ys));
  gauges = λ at c is_gauge kept.
      ap (gauge_all at) (pick-wide fs ts n c xs)
      ∙ (same-gauges fs ts at (pick n c xs) (pick n c ys) widens is_gauge kept (picked c xs all_x) (picked c ys all_y) (λ place at_place narrow_kept. alike.gauges place c at_place narrow_kept) ∙ sym (ap (gauge_all at) (pick-wide fs ts n c ys)));
  rises = λ at key start c is_counter kept.
      ap (rise_in_order at) (windowed key start c xs)
      ∙ (same-rises fs ts at (of_window key start (pick n c xs)) (of_window key start (pick n c ys)) widens is_counter kept (in_window key start c xs all_x) (in_window key start c ys all_y) (λ place at_place narrow_kept. alike.rises place key start c at_place narrow_kept)
      ∙ sym (ap (rise_in_order at) (windowed key start c ys)));
}
  where
    counted : (c : Choice) (zs : List Sample) → documents_in (pick n c (map (wide fs ts) zs)) ≡ documents_in (pick n c zs)
    counted c zs = ap documents_in (pick-wide fs ts n c zs) ∙ (ap documents (rows-wide fs ts (pick n c zs)) ∙ documents-wide fs ts (rows_in (pick n c zs)))

    windowed : (key : List ℕ) (start : ℤ) (c : Choice) (zs : List Sample) → of_window key start (pick n c (map (wide fs ts) zs)) ≡ map (wide fs ts) (of_window key start (pick n c zs))
    windowed key start c zs = ap (of_window key start) (pick-wide fs ts n c zs) ∙ window-wide fs ts key start (pick n c zs)

    picked : (c : Choice) (zs : List Sample) → Each (λ row. length row.cells ≡ length fs) (rows_in zs) → Each (λ row. length row.cells ≡ length fs) (rows_in (pick n c zs))
    picked c zs all = all-filter fs ts (λ s. c s.row.key s.start (bucket_start n s.row.time)) zs all

    in_window : (key : List ℕ) (start : ℤ) (c : Choice) (zs : List Sample) → Each (λ row. length row.cells ≡ length fs) (rows_in zs) → Each (λ row. length row.cells ≡ length fs) (rows_in (of_window key start (pick n c zs)))
    in_window key start c zs all = all-filter fs ts (λ s. bytes_eq s.row.key key && int_eq s.start start) (pick n c zs) (picked c zs all)
