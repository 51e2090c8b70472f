-- Gauges over lists of rows joined, whatever the order, and how far they reach.
use Rattle.std.specs.Prelude.{◌≡◌, ℕ, zero, suc, ℤ, ◌+◌, ◌*◌, ◌^◌, ◌≤◌, ◌+ℤ◌, max, Bool, true, false, cond, if◌then◌else◌, Option, Some, None, List, [], ◌∷◌, ◌++◌}
use Rattle.std.specs.Int.{int_min, int_max}
use Rattle.std.specs.List.{filter, slice_get}
use Rattle.std.specs.Ordering.{is_le}
use Rattle.std.proofs.Common.{inl, refl, ap, sym, subst, ◌∙◌, arith}
use Rattle.std.proofs.lemmas.Int.{ints, clamps}
use Rattle.std.proofs.lemmas.List.Elements.{filter-append}
use Rattle.std.proofs.lemmas.List.Sums.{sum_by-append, sum_by-cons}
use Rattle.fold_law.specs.declared.measures.Gauge.{Gauge}
use Rattle.fold_law.specs.declared.measures.Parts.{Parts}
use Rattle.fold_law.specs.GaugeLaws.{gauge_laws}
use Rattle.fold_law.specs.Gauges.{join_parts, join_present_parts, merge_gauges, no_gauge, reach_of_gauge, reach_of_parts}
use Rattle.fold_law.specs.Laws.{reach_of_items}
use Rattle.fold_law.specs.ListLaws.{fold_of-append, fold_of-one, reach-fold_of}
use Rattle.row_cells.specs.declared.rows.Cell.{Cell}
use Rattle.row_cells.specs.declared.rows.Row.{Row}
use Rattle.row_cells.specs.declared.schemas.Field.{Field}
use Rattle.row_cells.specs.declared.schemas.Schema.{Schema}
use Rattle.row_cells.specs.Each.{Each}
use Rattle.row_cells.specs.EachLaws.{Each-weaker, filter_all}
use Rattle.row_cells.specs.FormLaws.{row_reach}
use Rattle.row_cells.specs.KeyedRows.{IsRowOf}
use Rattle.row_cells.specs.Limits.{most_documents}
use Rattle.row_cells.specs.Merging.{parts_of}
use Rattle.row_cells.specs.Order.{row_cmp}
use Rattle.row_cells.specs.Reach.{reach_of_cell, reach_of_cells}
use Rattle.row_cells.specs.RowLists.{documents, in_row_order, insert_row}
use Rattle.index_segment.specs.Columns.{cell_or_absent}
use Rattle.index_segment.specs.Held.{Held}
use Rattle.index_segment.specs.Looks.{IsGaugeAt, gauge_at, gauge_of, is_within, rows_within}
use Rattle.tsds_index.specs.Segments.{AreOfSchema}

-- ---- in any order

min_either : (a b : ℤ) → int_min a b ≡ int_min b a
min_either a b = omega (arith, ints, clamps)

max_either : (a b : ℤ) → int_max a b ≡ int_max b a
max_either a b = omega (arith, ints, clamps)

plus_either : (a b : ℤ) → a +ℤ b ≡ b +ℤ a
plus_either a b = omega (arith, ints)

parts_either : (p q : Parts) → join_parts p q ≡ join_parts q p
parts_either p q = rw (min_either p.min q.min, max_either p.max q.max, plus_either p.sum q.sum, plus_either p.count q.count) refl

present_either : (p q : Option Parts) → join_present_parts p q ≡ join_present_parts q p
present_either None None = refl
present_either None (Some q) = refl
present_either (Some p) None = refl
present_either (Some p) (Some q) = ap Some (parts_either p q)

either : (a b : Gauge) → merge_gauges a b ≡ merge_gauges b a
either a b = let same = present_either a.0 b.0 in cc

swapped : (a b c : Gauge) → merge_gauges b (merge_gauges a c) ≡ merge_gauges a (merge_gauges b c)
swapped a b c = sym (gauge_laws.assoc b a c) ∙ (ap (λ g. merge_gauges g c) (either b a) ∙ gauge_laws.assoc a b c)

abbrev items_reach : ℕ → List Row → ℕ
items_reach field rows = reach_of_items reach_of_gauge (gauge_at field) rows

module _ (field : ℕ) where
  insert_gauge : (x : Row) (ys : List Row) → gauge_of field (insert_row x ys) ≡ merge_gauges (gauge_at field x) (gauge_of field ys)
  insert_gauge x [] = refl
  insert_gauge x (y ∷ ys) = by_test (is_le (row_cmp x y)) (insert_gauge x ys)
    where
      by_test : (b : Bool) → gauge_of field (insert_row x ys) ≡ merge_gauges (gauge_at field x) (gauge_of field ys)
          → gauge_of field (if b then x ∷ y ∷ ys else y ∷ insert_row x ys) ≡ merge_gauges (gauge_at field x) (merge_gauges (gauge_at field y) (gauge_of field ys))
      by_test true later = refl
      by_test false later = ap (merge_gauges (gauge_at field y)) later ∙ swapped (gauge_at field x) (gauge_at field y) (gauge_of field ys)

  pub sorted_gauge : (rows : List Row) → gauge_of field (in_row_order rows) ≡ gauge_of field rows
  sorted_gauge [] = refl
  sorted_gauge (x ∷ xs) = insert_gauge x (in_row_order xs) ∙ ap (merge_gauges (gauge_at field x)) (sorted_gauge xs)

  -- ---- how far the rows that a test takes reach

  reach_append : (xs ys : List Row) → items_reach field (xs ++ ys) ≡ items_reach field xs + items_reach field ys
  reach_append xs ys = sum_by-append (λ row. reach_of_gauge (gauge_at field row)) xs ys

  reach_filter : (test : Row → Bool) (rows : List Row) → items_reach field (filter test rows) ≤ items_reach field rows
  reach_filter test [] = omega arith
  reach_filter test (x ∷ xs) = by_test (test x) (reach_filter test xs)
    where
      by_test : (b : Bool) → items_reach field (filter test xs) ≤ items_reach field xs → items_reach field (cond b (x ∷ filter test xs) (filter test xs)) ≤ items_reach field (x ∷ xs)
      by_test true later = omega (arith, later, sum_by-cons (λ row. reach_of_gauge (gauge_at field row)) x (filter test xs), sum_by-cons (λ row. reach_of_gauge (gauge_at field row)) x xs)
      by_test false later = omega (arith, later, sum_by-cons (λ row. reach_of_gauge (gauge_at field row)) x xs)

  module _ (key : List ℕ) (from to : ℤ) where
    over_append : (xs ys : List Row) → gauge_of field (rows_within key from to (xs ++ ys)) ≡ merge_gauges (gauge_of field (rows_within key from to xs)) (gauge_of field (rows_within key from to ys))
    over_append xs ys = ap (gauge_of field) (filter-append (is_within key from to) xs ys) ∙ fold_of-append gauge_laws (gauge_at field) (rows_within key from to xs) (rows_within key from to ys)

    over_reach : (rows : List Row) → reach_of_gauge (gauge_of field (rows_within key from to rows)) ≤ items_reach field rows
    over_reach rows = omega (arith, reach-fold_of gauge_laws (gauge_at field) (rows_within key from to rows), reach_filter (is_within key from to) rows)

    -- rows that a range has already taken
    taken : (rows : List Row) → Each (λ r. is_within key from to r ≡ true) (rows_within key from to rows)
    taken [] = tt
    taken (x ∷ xs) = by_test (is_within key from to x) refl (taken xs)
      where
        by_test : (b : Bool) → is_within key from to x ≡ b → Each (λ r. is_within key from to r ≡ true) (rows_within key from to xs) → Each (λ r. is_within key from to r ≡ true) (cond b (x ∷ rows_within key from to xs) (rows_within key from to xs))
        by_test true is later = (is, later)
        by_test false is later = later

    pub taken_once : (some rows : List Row) → some ≡ rows_within key from to rows → rows_within key from to some ≡ rows_within key from to rows
    taken_once some rows is = ap (rows_within key from to) is ∙ filter_all (is_within key from to) (rows_within key from to rows) (taken rows)

    pub room_within : (none : Gauge) (some rows buffer lists : List Row) → none ≡ no_gauge → some ≡ rows_within key from to rows → rows ≡ buffer → items_reach field (buffer ++ lists) ≤ 2 ^ 120 → reach_of_gauge none + items_reach field some ≤ 2 ^ 120
    room_within none some rows buffer lists none_is is rows_are room =
        omega (arith, room, reach_append buffer lists, ap reach_of_gauge none_is, ap (items_reach field) is, ap (items_reach field) rows_are, reach_filter (is_within key from to) rows)

    -- ---- a row more

    pub row_taken : (row : Row) (total g : Gauge) → g ≡ gauge_at field row → is_within key from to row ≡ true → merge_gauges total g ≡ merge_gauges total (gauge_of field (rows_within key from to (row ∷ [])))
    row_taken row total g g_is is =
        ap (merge_gauges total) (g_is ∙ (sym (fold_of-one gauge_laws (gauge_at field) row) ∙ ap (λ b. gauge_of field (cond {A = List Row} b (row ∷ []) [])) (sym is)))

    pub row_left : (row : Row) (total : Gauge) → is_within key from to row ≡ false → total ≡ merge_gauges total (gauge_of field (rows_within key from to (row ∷ [])))
    row_left row total is =
        sym (gauge_laws.none_right total) ∙ ap (λ b. merge_gauges total (gauge_of field (cond {A = List Row} b (row ∷ []) []))) (sym is)

    -- ---- lists joined one after the other

    -- with what is left the total is the goal, and there is room for all that is left
    pub record IsJoining (total : Gauge) (left : List Row) (goal : Gauge) : Type 0 where
      pub joined : merge_gauges total (gauge_of field (rows_within key from to left)) ≡ goal
      pub room : reach_of_gauge total + items_reach field left ≤ 2 ^ 120

    pub join_ended : (total : Gauge) (left : List Row) (goal : Gauge) → left ≡ [] → IsJoining total left goal → total ≡ goal
    join_ended total left goal none are = sym (gauge_laws.none_right total) ∙ (ap (λ rows. merge_gauges total (gauge_of field (rows_within key from to rows))) (sym none) ∙ are.joined)

    module _ (total : Gauge) (left xs rest : List Row) (goal : Gauge) (are : IsJoining total left goal) where
      pub front_room : left ≡ xs ++ rest → reach_of_gauge total + items_reach field xs ≤ 2 ^ 120
      front_room is = omega (arith, are.room, ap (items_reach field) is, reach_append xs rest)

      pub over_room : (g : Gauge) → left ≡ rest ++ xs → g ≡ gauge_of field (rows_within key from to xs) → reach_of_gauge total + reach_of_gauge g ≤ 2 ^ 120
      over_room g is g_is = omega (arith, are.room, ap (items_reach field) is, reach_append rest xs, over_reach xs, ap reach_of_gauge g_is)

      more_room : (more : Gauge) → items_reach field left ≡ items_reach field xs + items_reach field rest → more ≡ merge_gauges total (gauge_of field (rows_within key from to xs)) → reach_of_gauge more + items_reach field rest ≤ 2 ^ 120
      more_room more is more_is = omega (arith, are.room, is, ap reach_of_gauge more_is, gauge_laws.reach_merge total (gauge_of field (rows_within key from to xs)), over_reach xs)

      pub front_joined : (more : Gauge) → left ≡ xs ++ rest → more ≡ merge_gauges total (gauge_of field (rows_within key from to xs)) → IsJoining more rest goal
      front_joined more is more_is = record {
        joined = ap (λ g. merge_gauges g (gauge_of field (rows_within key from to rest))) more_is
            ∙ (gauge_laws.assoc total (gauge_of field (rows_within key from to xs)) (gauge_of field (rows_within key from to rest))
            ∙ (ap (merge_gauges total) (sym (ap (λ rows. gauge_of field (rows_within key from to rows)) is ∙ over_append xs rest)) ∙ are.joined));
        room = more_room more (ap (items_reach field) is ∙ reach_append xs rest) more_is;
      }

      pub back_joined : (more : Gauge) → left ≡ rest ++ xs → more ≡ merge_gauges total (gauge_of field (rows_within key from to xs)) → IsJoining more rest goal
      back_joined more is more_is = record {
        joined = ap (λ g. merge_gauges g (gauge_of field (rows_within key from to rest))) more_is
            ∙ (gauge_laws.assoc total (gauge_of field (rows_within key from to xs)) (gauge_of field (rows_within key from to rest))
            ∙ (ap (merge_gauges total) (either (gauge_of field (rows_within key from to xs)) (gauge_of field (rows_within key from to rest))
            ∙ sym (ap (λ rows. gauge_of field (rows_within key from to rows)) is ∙ over_append rest xs)) ∙ are.joined));
        room = more_room more (omega (arith, ap (items_reach field) is, reach_append rest xs)) more_is;
      }

-- ---- rows of an index leave room

within_max : (a b c : ℕ) → a ≤ c → a ≤ max b c
within_max a b c p = omega (arith, p)

cell_reach_at : (fs : List Field) (cs : List Cell) (place : ℕ) → IsGaugeAt fs place → reach_of_parts (parts_of (cell_or_absent (slice_get cs place))) ≤ reach_of_cells fs cs
cell_reach_at [] cs place is = absurd is
cell_reach_at (f ∷ fs) [] place is = omega arith
cell_reach_at (f ∷ fs) (c ∷ cs) zero is =
    subst (λ role. reach_of_parts (parts_of c) ≤ max (reach_of_cell role c) (reach_of_cells fs cs)) (sym is) (omega arith)
cell_reach_at (f ∷ fs) (c ∷ cs) (suc place) is = within_max (reach_of_parts (parts_of (cell_or_absent (slice_get cs place)))) (reach_of_cell f.role c) (reach_of_cells fs cs) (cell_reach_at fs cs place is)

row_gauge_reach : (schema : Schema) (field : ℕ) (row : Row) → IsGaugeAt schema.fields field → IsRowOf schema row → reach_of_gauge (gauge_at field row) ≤ row.count * 2 ^ 66
row_gauge_reach schema field row is row_is = omega (arith, cell_reach_at schema.fields row.cells field is, row_reach schema row (inl row_is.fits))

rows_gauge_reach : (schema : Schema) (field : ℕ) (rows : List Row) → IsGaugeAt schema.fields field → Each (IsRowOf schema) rows → items_reach field rows ≤ documents rows * 2 ^ 66
rows_gauge_reach schema field [] is each = omega arith
rows_gauge_reach schema field (row ∷ rows) is each =
    omega (arith, sum_by-cons (λ r. reach_of_gauge (gauge_at field r)) row rows, row_gauge_reach schema field row is each.0, rows_gauge_reach schema field rows is each.1)

pub rows_have_room : (schema : Schema) (field : ℕ) (rows : List Row) → IsGaugeAt schema.fields field → Each (IsRowOf schema) rows → documents rows ≤ most_documents → items_reach field rows ≤ 2 ^ 120
rows_have_room schema field rows is each few = omega (arith, rows_gauge_reach schema field rows is each, few)

pub gauge_fields : (schema : Schema) (field : ℕ) (segments : List Held) → IsGaugeAt schema.fields field → AreOfSchema schema segments → Each (λ segment. IsGaugeAt segment.schema.fields field) segments
gauge_fields schema field segments is are = Each-weaker (λ segment. segment.schema ≡ schema) (λ segment. IsGaugeAt segment.schema.fields field) (λ segment same. subst (λ s. IsGaugeAt s.fields field) (sym same) is) segments are

-- ---- a buffer and segments

module _ (field : ℕ) (key : List ℕ) (from to f t : ℤ) (from_is : f ≡ from) (to_is : t ≡ to) (none waiting : Gauge) (rows buffer slice lists : List Row) (none_is : none ≡ no_gauge) (waiting_is : waiting ≡ merge_gauges none (gauge_of field (rows_within key f t rows))) (rows_are : rows ≡ buffer) (slice_is : slice ≡ lists) where
  waits : waiting ≡ gauge_of field (rows_within key from to buffer)
  waits =
      waiting_is ∙ (ap (λ g. merge_gauges g (gauge_of field (rows_within key f t rows))) none_is
      ∙ (ap (λ rs. gauge_of field (rows_within key f t rs)) rows_are
      ∙ (ap (λ a. gauge_of field (rows_within key a t buffer)) from_is ∙ ap (λ b. gauge_of field (rows_within key from b buffer)) to_is)))

  pub room_left : items_reach field (buffer ++ lists) ≤ 2 ^ 120 → reach_of_gauge waiting + items_reach field slice ≤ 2 ^ 120
  room_left room = omega (arith, room, reach_append field buffer lists, ap reach_of_gauge waits, over_reach field key from to buffer, ap (items_reach field) slice_is)

  pub both_gauges : (g : Gauge) → g ≡ merge_gauges waiting (gauge_of field (rows_within key f t slice)) → g ≡ gauge_of field (rows_within key from to (buffer ++ lists))
  both_gauges g is =
      is ∙ (ap (λ w. merge_gauges w (gauge_of field (rows_within key f t slice))) waits
      ∙ (ap (λ rs. merge_gauges (gauge_of field (rows_within key from to buffer)) (gauge_of field (rows_within key f t rs))) slice_is
      ∙ (ap (λ a. merge_gauges (gauge_of field (rows_within key from to buffer)) (gauge_of field (rows_within key a t lists))) from_is
      ∙ (ap (λ b. merge_gauges (gauge_of field (rows_within key from to buffer)) (gauge_of field (rows_within key from b lists))) to_is
      ∙ sym (over_append field key from to buffer lists)))))
