-- Rows of a series and a range of times, found by places and put together from columns.
use Rattle.std.specs.Prelude.{◌≡◌, ℕ, ℤ, pos, zero, suc, ◌≤ℤ◌, ◌<ℤ◌, ◌+◌, ◌-◌, ◌<◌, ◌≤◌, ◌&&◌, int_le, int_lt, not, T, Bool, true, false, cond, Option, Some, List, [], ◌∷◌, ◌++◌, map, length, take, drop, slice_range}
use Rattle.std.specs.List.{filter, slice_get}
use Rattle.std.specs.Option.{option_map}
use Rattle.std.specs.Str.{bytes_eq}
use Rattle.std.specs.Int.Signed.{lt_z, lt_z_yes, lt_z_no, le_z, le_z_yes}
use Rattle.std.proofs.Common.{refl, ap, sym, subst, ◌∙◌, arith, get_or, append_assoc, length-append}
use Rattle.std.proofs.lemmas.Int.{ints}
use Rattle.std.proofs.lemmas.List.{length-map, map-append}
use Rattle.std.proofs.lemmas.Option.{slice_get-map, slice_get_past, slice_get_within, get_or_from_slice_get}
use Rattle.row_cells.specs.Each.{Each}
use Rattle.row_cells.specs.RowLists.{AreInRowOrder}
use Rattle.row_cells.specs.declared.schemas.Schema.{Schema}
use Rattle.row_cells.specs.declared.rows.Row.{Row}
use Rattle.row_cells.specs.Mapped.{IsMapped}
use Rattle.column_block.specs.Ranges.{rows_between}
use Rattle.column_block.specs.declared.kinds.Values.{Values}
use Rattle.column_block.specs.declared.kinds.Values.TheVariants as values
use Rattle.index_segment.specs.declared.forms.Form.{Form}
use Rattle.index_segment.specs.declared.forms.Form.TheVariants.{Bare, Whole, Parts as PartsForm, Rise, Numbers, Flags, Words}
use Rattle.index_segment.specs.Cells.{whole_in, parts_in, first_in, last_in, high_in, low_in, numbers_in, texts_in}
use Rattle.index_segment.specs.Columns.{cell_at, columns_from, columns_of, columns_of_cells}
use Rattle.index_segment.specs.Directory.{row_keys}
use Rattle.index_segment.specs.Forms.{forms_of}
use Rattle.row_cells.specs.Heads.{heads_in}
use Rattle.index_segment.specs.Held.{row_from, series_rows}
use Rattle.index_segment.specs.Looks.{is_within, rows_within}
use Rattle.packed_lists.specs.Falling.{Fall}
use Rattle.index_segment.specs.Order.{NoneIs, Stands}
use Rattle.row_cells.specs.KeyedRows.{IsRowOf}
use Rattle.index_segment.specs.Spelling.{counts_of, times_of}
use Rattle.index_segment.proofs.HeldRows.{row_back}
use Rattle.index_segment.proofs.Restored.{behind}
use Rattle.index_segment.proofs.Runs.{bytes_eq_itself}
use Rattle.index_segment.proofs.Series.{in_order_at}
use Rattle.index_segment.proofs.Lists.{both, by_nat}
use Rattle.column_block.specs.EachLaws.{each-range}
use Rattle.row_cells.specs.WidenLaws.{other_bytes}
use Rattle.packed_lists.specs.Laws.Picking.{range-map}
use Rattle.row_cells.specs.declared.rows.Cell.{Cell}
use Rattle.row_cells.specs.RangeLaws.{earlier_behind}

-- ---- one row

pub row_at : (rows : List Row) (k : ℕ) → k < length rows → (r : Row) × (slice_get rows k ≡ Some r)
row_at [] k within = absurd (omega (arith, within))
row_at (row ∷ rows) zero within = (row, refl)
row_at (row ∷ rows) (suc k) within = row_at rows k (omega (arith, within))

pub key_at : (rows : List Row) (k : ℕ) (r : Row) → slice_get rows k ≡ Some r → get_or (row_keys rows) k [] ≡ r.key
key_at rows k r there = get_or_from_slice_get (row_keys rows) k r.key [] (slice_get-map (λ row. row.key) rows k ∙ ap (option_map (λ row. row.key)) there)

pub time_at : (rows : List Row) (k : ℕ) (r : Row) → slice_get rows k ≡ Some r → get_or (times_of rows) k (pos 0) ≡ r.time
time_at rows k r there = get_or_from_slice_get (times_of rows) k r.time (pos 0) (slice_get-map (λ row. row.time) rows k ∙ ap (option_map (λ row. row.time)) there)

pub falling : (rows : List Row) (key : List ℕ) (a b : ℕ) → AreInRowOrder rows → Stands (row_keys rows) key a b → Fall (times_of rows) a b
falling rows key a b are s i j from less to =
    let long = length-map rows (λ row. row.key) in
    let r = row_at rows i (omega (arith, less, to, s.within, long)) in
    let t = row_at rows j (omega (arith, to, s.within, long)) in
    let same : r.0.key ≡ t.0.key = sym (key_at rows i r.0 r.1) ∙ (s.inside i from (omega (arith, less, to)) ∙ (sym (s.inside j (omega (arith, from, less)) to) ∙ key_at rows j t.0 t.1)) in
    let falls : t.0.time <ℤ r.0.time = earlier_behind r.0 t.0 (in_order_at rows i j r.0 t.0 are less r.1 t.1) same in
    subst (λ x. x <ℤ get_or (times_of rows) i (pos 0)) (sym (time_at rows j t.0 t.1)) (subst (λ x. t.0.time <ℤ x) (sym (time_at rows i r.0 r.1)) falls)

-- ---- the test

and_false : (a b : Bool) → a ≡ false → a && b ≡ false
and_false a b is = ap (λ x. x && b) is

and_right : (a b : Bool) → b ≡ false → a && b ≡ false
and_right true b is = is
and_right false b is = refl

not_less : (a b : ℤ) → b ≤ℤ a → int_lt a b ≡ false
not_less a b above = go (lt_z a b) refl
  where
    go : (v : Bool) → lt_z a b ≡ v → v ≡ false
    go true e = absurd (omega (arith, ints, above, lt_z_yes {a = a} {b = b} (subst T (sym e) tt)))
    go false e = refl

is_less : (a b : ℤ) → a <ℤ b → int_lt a b ≡ true
is_less a b below = go (lt_z a b) refl
  where
    go : (v : Bool) → lt_z a b ≡ v → v ≡ true
    go true e = refl
    go false e = absurd (omega (arith, ints, below, lt_z_no {a = a} {b = b} (subst (λ v. T (not v)) (sym e) tt)))

is_up_to : (a b : ℤ) → a ≤ℤ b → int_le a b ≡ true
is_up_to a b below = go (le_z a b) below.le
  where
    go : (v : Bool) → T v → v ≡ true
    go true t = refl
    go false t = absurd t

not_up_to : (a b : ℤ) → b <ℤ a → int_le a b ≡ false
not_up_to a b below = go (le_z a b) refl
  where
    go : (v : Bool) → le_z a b ≡ v → v ≡ false
    go true e = absurd (omega (arith, ints, below, le_z_yes {a = a} {b = b} (subst T (sym e) tt)))
    go false e = refl

module _ (key : List ℕ) (from to : ℤ) (r : Row) where
  other_key : (r.key ≡ key → ⊥) → is_within key from to r ≡ false
  other_key other = and_false (bytes_eq r.key key && int_le from r.time) (int_lt r.time to) (and_false (bytes_eq r.key key) (int_le from r.time) (other_bytes r.key key other))

  too_late : to ≤ℤ r.time → is_within key from to r ≡ false
  too_late late = and_right (bytes_eq r.key key && int_le from r.time) (int_lt r.time to) (not_less r.time to late)

  too_early : r.time <ℤ from → is_within key from to r ≡ false
  too_early early = and_false (bytes_eq r.key key && int_le from r.time) (int_lt r.time to) (and_right (bytes_eq r.key key) (int_le from r.time) (not_up_to from r.time early))

  in_time : r.key ≡ key → from ≤ℤ r.time → r.time <ℤ to → is_within key from to r ≡ true
  in_time same early late =
      ap (λ b. (b && int_le from r.time) && int_lt r.time to) (ap (λ k. bytes_eq k key) same ∙ bytes_eq_itself key)
      ∙ (ap (λ b. b && int_lt r.time to) (is_up_to from r.time early) ∙ is_less r.time to late)

-- ---- a filter that passes a range

filter_none : {A : Type 0} (p : A → Bool) (xs : List A) → ((k : ℕ) (x : A) → slice_get xs k ≡ Some x → p x ≡ false) → filter p xs ≡ []
filter_none p [] none = refl
filter_none {A} p (x ∷ xs) none = ap (λ b. cond {A = List A} b (x ∷ filter p xs) (filter p xs)) (none 0 x refl) ∙ filter_none p xs (λ k y there. none (suc k) y there)

pub filter_slice : {A : Type 0} (p : A → Bool) (xs : List A) (i j : ℕ) → i ≤ j → j ≤ length xs → ((k : ℕ) (x : A) → slice_get xs k ≡ Some x → k < i → p x ≡ false) → ((k : ℕ) (x : A) → slice_get xs k ≡ Some x → i ≤ k → k < j → p x ≡ true) → ((k : ℕ) (x : A) → slice_get xs k ≡ Some x → j ≤ k → p x ≡ false) → filter p xs ≡ slice_range xs i j
filter_slice p [] zero zero order within before inside behind = refl
filter_slice p [] zero (suc j) order within before inside behind = absurd (omega (arith, within))
filter_slice p [] (suc i) j order within before inside behind = absurd (omega (arith, order, within))
filter_slice p (x ∷ xs) zero zero order within before inside behind = filter_none p (x ∷ xs) (λ k y there. behind k y there (omega arith))
filter_slice {A} p (x ∷ xs) zero (suc j) order within before inside behind =
    ap (λ b. cond {A = List A} b (x ∷ filter p xs) (filter p xs)) (inside 0 x refl (omega arith) (omega arith))
    ∙ (ap (λ ys. x ∷ ys) (filter_slice p xs zero j (omega arith) (omega (arith, within)) (λ k y there less. absurd (omega (arith, less))) (λ k y there from less. inside (suc k) y there (omega arith) (omega (arith, less))) (λ k y there from. behind (suc k) y there (omega (arith, from))))
    ∙ (ap (λ n. x ∷ take n xs) less_zero ∙ sym (ap (λ n. take n (x ∷ xs)) suc_less_zero)))
  where
    less_zero : j - 0 ≡ j
    less_zero = omega arith

    suc_less_zero : suc j - 0 ≡ suc j
    suc_less_zero = omega arith
filter_slice p (x ∷ xs) (suc i) zero order within before inside behind = absurd (omega (arith, order))
filter_slice {A} p (x ∷ xs) (suc i) (suc j) order within before inside behind =
    ap (λ b. cond {A = List A} b (x ∷ filter p xs) (filter p xs)) (before 0 x refl (omega arith))
    ∙ (filter_slice p xs i j (omega (arith, order)) (omega (arith, within)) (λ k y there less. before (suc k) y there (omega (arith, less))) (λ k y there from less. inside (suc k) y there (omega (arith, from)) (omega (arith, less))) (λ k y there from. behind (suc k) y there (omega (arith, from)))
    ∙ ap (λ n. take n (drop i xs)) same)
  where
    same : j - i ≡ suc j - suc i
    same = omega arith

-- ---- the rows of a range

pub none_within : (rows : List Row) (key : List ℕ) (from to : ℤ) → NoneIs (row_keys rows) key → rows_within key from to rows ≡ []
none_within rows key from to none = filter_none (is_within key from to) rows (λ k r there. other_key key from to r (λ same. none k (within k r there) (key_at rows k r there ∙ same)))
  where
    within : (k : ℕ) (r : Row) → slice_get rows k ≡ Some r → k < length (row_keys rows)
    within k r there = omega (arith, slice_get_within rows k r there, length-map rows (λ row. row.key))

pub range_within : (rows : List Row) (key : List ℕ) (from to : ℤ) (a b i j : ℕ) → Stands (row_keys rows) key a b → a ≤ i → i ≤ j → j ≤ b → ((k : ℕ) → a ≤ k → k < i → to ≤ℤ get_or (times_of rows) k (pos 0)) → ((k : ℕ) → i ≤ k → k < b → get_or (times_of rows) k (pos 0) <ℤ to) → ((k : ℕ) → i ≤ k → k < j → from ≤ℤ get_or (times_of rows) k (pos 0)) → ((k : ℕ) → j ≤ k → k < b → get_or (times_of rows) k (pos 0) <ℤ from) → rows_within key from to rows ≡ slice_range rows i j
range_within rows key from to a b i j s a_i i_j j_b late in_late early in_early =
    filter_slice (is_within key from to) rows i j i_j (omega (arith, j_b, s.within, long))
    (λ k r there less. by_nat k a (λ below. other_key key from to r (λ same. s.before k below (key_at rows k r there ∙ same))) (λ start. too_late key from to r (subst (λ t. to ≤ℤ t) (time_at rows k r there) (late k start less))))
    (λ k r there start less. in_time key from to r (sym (key_at rows k r there) ∙ s.inside k (omega (arith, start, a_i)) (omega (arith, less, j_b))) (subst (λ t. from ≤ℤ t) (time_at rows k r there) (early k start less)) (subst (λ t. t <ℤ to) (time_at rows k r there) (in_late k start (omega (arith, less, j_b)))))
    (λ k r there start. by_nat k b (λ below. too_early key from to r (subst (λ t. t <ℤ from) (time_at rows k r there) (in_early k start below))) (λ end. other_key key from to r (λ same. s.behind k end (omega (arith, slice_get_within rows k r there, long)) (key_at rows k r there ∙ same))))
  where
    long : length (row_keys rows) ≡ length rows
    long = length-map rows (λ row. row.key)

-- ---- lists of a range

pub range_two : {A B C : Type 0} (f : B → C) (g : A → B) (xs : List A) (i j : ℕ) → slice_range (map f (map g xs)) i j ≡ map f (map g (slice_range xs i j))
range_two f g xs i j = range-map f (map g xs) i j ∙ ap (map f) (range-map g xs i j)

module _ (i j : ℕ) where
  cells_range : (form : Form) (place : ℕ) (rows : List Row) → map (rows_between i j) (columns_of_cells form (map (cell_at place) rows)) ≡ columns_of_cells form (map (cell_at place) (slice_range rows i j))
  cells_range Bare place rows = refl
  cells_range Whole place rows = ap (λ vs. values.Whole vs ∷ []) (range_two whole_in (cell_at place) rows i j)
  cells_range PartsForm place rows = ap (λ vs. values.Parts vs ∷ []) (range_two parts_in (cell_at place) rows i j)
  cells_range Numbers place rows = ap (λ vs. values.Wholes vs ∷ []) (range_two numbers_in (cell_at place) rows i j)
  cells_range Flags place rows = ap (λ vs. values.Wholes vs ∷ []) (range_two numbers_in (cell_at place) rows i j)
  cells_range Words place rows = ap (λ vs. values.Words vs ∷ []) (range_two texts_in (cell_at place) rows i j)
  cells_range Rise place rows = four (range_two first_in (cell_at place) rows i j) (range_two last_in (cell_at place) rows i j) (range_two high_in (cell_at place) rows i j) (range_two low_in (cell_at place) rows i j)
    where
      four : {a b c d e f g h : List (Option ℤ)} → a ≡ e → b ≡ f → c ≡ g → d ≡ h → values.Whole a ∷ values.Whole b ∷ values.Whole c ∷ values.Whole d ∷ [] ≡ values.Whole e ∷ values.Whole f ∷ values.Whole g ∷ values.Whole h ∷ []
      four p q r s = cc

  columns_range : (place : ℕ) (forms : List Form) (rows : List Row) → map (rows_between i j) (columns_from place forms rows) ≡ columns_from place forms (slice_range rows i j)
  columns_range place [] rows = refl
  columns_range place (form ∷ forms) rows =
      map-append (rows_between i j) (columns_of_cells form (map (cell_at place) rows)) (columns_from (place + 1) forms rows)
      ∙ (ap (λ xs. xs ++ map (rows_between i j) (columns_from (place + 1) forms rows)) (cells_range form place rows)
      ∙ ap (λ xs. columns_of_cells form (map (cell_at place) (slice_range rows i j)) ++ xs) (columns_range (place + 1) forms rows))

  pub columns_of_range : (schema : Schema) (rows : List Row) → map (rows_between i j) (columns_of schema rows) ≡ columns_of schema (slice_range rows i j)
  unfolding columns_of
  columns_of_range schema rows = columns_range 0 (forms_of schema) rows

-- ---- rows of a series

series_back : (schema : Schema) (key : List ℕ) (all done rest : List Row) (k : ℕ) → IsMapped schema → Each (IsRowOf schema) rest → Each (λ row. row.key ≡ key) rest → all ≡ done ++ rest → length done ≡ k → series_rows key (forms_of schema) (heads_in schema.fields key) (columns_of schema all) k (times_of rest) (counts_of rest) ≡ rest
series_back schema key all done [] k mapped each keys whole long = refl
series_back schema key all done (row ∷ rest) k mapped each keys whole long =
    let there : slice_get all k ≡ Some row = ap (λ rows. slice_get rows k) whole ∙ (ap (slice_get (done ++ row ∷ rest)) at ∙ behind done (row ∷ rest) 0) in
    let moved : all ≡ (done ++ row ∷ []) ++ rest = whole ∙ sym (append_assoc done (row ∷ []) rest) in
    let longer : length (done ++ row ∷ []) ≡ k + 1 = omega (arith, long, length-append done (row ∷ [])) in
    let here : row_from schema (columns_of schema all) k key row.time (pos row.count) ≡ row = ap (λ t. row_from schema (columns_of schema all) k t row.time (pos row.count)) (sym keys.0) ∙ row_back schema all row k mapped each.0 there in
    both here (series_back schema key all (done ++ row ∷ []) rest (k + 1) mapped each.1 keys.1 moved longer)
  where
    at : k ≡ length done + 0
    at = omega (arith, long)

-- rows of one key from one place up to another, from the columns of all rows
pub made_range : (schema : Schema) (rows : List Row) (key : List ℕ) (i j : ℕ) → IsMapped schema → Each (IsRowOf schema) rows → Each (λ row. row.key ≡ key) (slice_range rows i j) → series_rows key (forms_of schema) (heads_in schema.fields key) (map (rows_between i j) (columns_of schema rows)) 0 (slice_range (times_of rows) i j) (slice_range (counts_of rows) i j) ≡ slice_range rows i j
made_range schema rows key i j mapped each keys =
    let part = slice_range rows i j in
    ap (λ columns. series_rows key (forms_of schema) (heads_in schema.fields key) columns 0 (slice_range (times_of rows) i j) (slice_range (counts_of rows) i j)) (columns_of_range i j schema rows)
    ∙ (ap (λ times. series_rows key (forms_of schema) (heads_in schema.fields key) (columns_of schema part) 0 times (slice_range (counts_of rows) i j)) (range-map (λ row. row.time) rows i j)
    ∙ (ap (λ counts. series_rows key (forms_of schema) (heads_in schema.fields key) (columns_of schema part) 0 (times_of part) counts) (range-map (λ row. pos row.count) rows i j)
    ∙ series_back schema key part [] part 0 mapped (each-range (IsRowOf schema) rows i j each) keys refl refl))

-- the same of parts that are equal to these
pub series_made : (schema : Schema) (rows : List Row) (key : List ℕ) (i j : ℕ) (forms : List Form) (heads : List Cell) (cols : List Values) (ts cs : List ℤ) → IsMapped schema → Each (IsRowOf schema) rows → Each (λ row. row.key ≡ key) (slice_range rows i j) → forms ≡ forms_of schema → heads ≡ heads_in schema.fields key → cols ≡ map (rows_between i j) (columns_of schema rows) → ts ≡ slice_range (times_of rows) i j → cs ≡ slice_range (counts_of rows) i j → series_rows key forms heads cols 0 ts cs ≡ slice_range rows i j
series_made schema rows key i j forms heads cols ts cs mapped each keys forms_is heads_is cols_is ts_is cs_is = rw (forms_is, heads_is, cols_is, ts_is, cs_is) (made_range schema rows key i j mapped each keys)

-- ---- the rows of a whole series

got_dropped : (n k : ℕ) (rows : List Row) → slice_get (drop n rows) k ≡ slice_get rows (n + k)
got_dropped zero k rows = ap (slice_get rows) (omega arith)
got_dropped (suc n) k [] = sym (slice_get_past [] (suc n + k) (omega arith))
got_dropped (suc n) k (row ∷ rows) = got_dropped n k rows ∙ ap (slice_get (row ∷ rows)) next
  where
    next : suc (n + k) ≡ suc n + k
    next = omega arith

got_taken : (n k : ℕ) (rows : List Row) (r : Row) → slice_get (take n rows) k ≡ Some r → (slice_get rows k ≡ Some r) × (k < n)
got_taken zero k rows r there = absurd (nothing k r there)
  where
    nothing : (k : ℕ) (r : Row) → slice_get [] k ≡ Some r → ⊥
    nothing k r there = cc (slice_get_past {X = Row} [] k (omega arith))
got_taken (suc n) k [] r there = absurd (nothing k r there)
  where
    nothing : (k : ℕ) (r : Row) → slice_get [] k ≡ Some r → ⊥
    nothing k r there = cc (slice_get_past {X = Row} [] k (omega arith))
got_taken (suc n) zero (row ∷ rows) r there = (there, omega arith)
got_taken (suc n) (suc k) (row ∷ rows) r there = let t = got_taken n k rows r there in (t.0, omega (arith, t.1))

each_got : (P : Row → Type 0) (rows : List Row) → ((k : ℕ) (r : Row) → slice_get rows k ≡ Some r → P r) → Each P rows
each_got P [] all = tt
each_got P (row ∷ rows) all = (all 0 row refl, each_got P rows (λ k r there. all (suc k) r there))

pub keys_in_series : (rows : List Row) (key : List ℕ) (a b i j : ℕ) → Stands (row_keys rows) key a b → a ≤ i → j ≤ b → Each (λ row. row.key ≡ key) (slice_range rows i j)
keys_in_series rows key a b i j s start end = each_got (λ row. row.key ≡ key) (slice_range rows i j) (λ k r there.
    let t = got_taken (j - i) k (drop i rows) r there in
    let at : slice_get rows (i + k) ≡ Some r = sym (got_dropped i k rows) ∙ t.0 in
    sym (key_at rows (i + k) r at) ∙ s.inside (i + k) (omega (arith, start)) (omega (arith, t.1, end)))

pub keys_of_series : (rows : List Row) (key : List ℕ) (a b : ℕ) → Stands (row_keys rows) key a b → Each (λ row. row.key ≡ key) (slice_range rows a b)
keys_of_series rows key a b s = keys_in_series rows key a b a b s (omega arith) (omega arith)
