-- Keys of rows: each once, in order, and those behind another.
use Rattle.std.specs.Prelude.{◌≡◌, ℕ, zero, suc, ◌+◌, ◌<◌, ◌≤◌, not, Bool, true, false, cond, if◌then◌else◌, Option, Some, None, List, [], ◌∷◌, length, map}
use Rattle.std.specs.Cmp.{tied_itself}
use Rattle.std.specs.Cmp.Lexicographic.{slice_cmp, nat_list_cmp_total}
use Rattle.std.specs.List.{filter, slice_get}
use Rattle.std.specs.Ordering.{is_gt, nat_cmp, ordering_reverse}
use Rattle.std.specs.Str.{bytes_eq}
use Rattle.std.specs.declared.cmp.Ordering.{Ordering}
use Rattle.std.specs.declared.cmp.Ordering.TheVariants.{Less, Equal, Greater}
use Rattle.std.proofs.Common.{refl, ap, sym, subst, ◌∙◌, arith, get_or}
use Rattle.std.proofs.lemmas.List.{length-map}
use Rattle.std.proofs.lemmas.Option.{slice_get-map, slice_get_past}
use Rattle.std.specs.Option.{option_map}
use Rattle.std.proofs.lemmas.Slice.Eq.{bytes_eq-Decides}
use Rattle.row_cells.specs.declared.rows.Row.{Row}
use Rattle.row_cells.specs.Each.{Each}
use Rattle.row_cells.specs.EachLaws.{Each-all, Each-filter, Each-weaker, filter_all}
use Rattle.row_cells.specs.declared.schemas.Schema.{Schema}
use Rattle.row_cells.specs.KeyedRows.{AreRowsOf}
use Rattle.row_cells.specs.Limits.{most_documents}
use Rattle.row_cells.specs.Order.{row_cmp}
use Rattle.row_cells.specs.RowLists.{AreInRowOrder}
use Rattle.downsample_fold.specs.Places.{keys_of as keys_folded}
use Rattle.index_segment.specs.Directory.{keys_of, row_keys}
use Rattle.index_segment.specs.Looks.{first_behind, is_behind}
use Rattle.index_segment.specs.Order.{KeysAfter, KeysAscend}
use Rattle.index_segment.specs.SeriesLaws.{keyed, keys_are_folded}
use Rattle.tsds_index.specs.Nexts.{IsUpToKey, first_key, keys_behind}
use Rattle.tsds_index.proofs.Counted.{length_documents}
use Rattle.tsds_index.proofs.Nexts.{both_ways_off, key_chain, key_upto}

-- ---- what holds of keys holds of rows

module _ (P : List ℕ → Type 0) where
  each_kept : (key : List ℕ) (keys : List (List ℕ)) → P key → Each P (filter (λ k. not (bytes_eq key k)) keys) → Each P keys
  each_kept key [] here each = tt
  each_kept key (k ∷ keys) here each = by_test (bytes_eq key k) refl (each_kept key keys here) each
    where
      by_test : (b : Bool) → bytes_eq key k ≡ b → (Each P (filter (λ j. not (bytes_eq key j)) keys) → Each P keys) → Each P (cond (not b) (k ∷ filter (λ j. not (bytes_eq key j)) keys) (filter (λ j. not (bytes_eq key j)) keys)) → Each P (k ∷ keys)
      by_test true is later rest = (subst P ((bytes_eq-Decides key k).0 is) here, later rest)
      by_test false is later rest = (rest.0, later rest.1)

  each_of_folded : (rows : List Row) → Each P (keys_folded rows) → Each (λ row. P row.key) rows
  each_of_folded [] each = tt
  each_of_folded (row ∷ rows) each = (each.0, each_of_folded rows (each_kept row.key (keys_folded rows) each.0 each.1))

  folded_each : (rows : List Row) → Each (λ row. P row.key) rows → Each P (keys_folded rows)
  folded_each [] each = tt
  folded_each (row ∷ rows) each = (each.0, Each-filter P (λ key. not (bytes_eq row.key key)) (keys_folded rows) (folded_each rows each.1))

  pub each_of_keys : (rows : List Row) → AreInRowOrder rows → Each P (keys_of rows) → Each (λ row. P row.key) rows
  each_of_keys rows order each = each_of_folded rows (subst (Each P) (keys_are_folded rows order) each)

  pub keys_each : (rows : List Row) → AreInRowOrder rows → Each (λ row. P row.key) rows → Each P (keys_of rows)
  keys_each rows order each = subst (Each P) (sym (keys_are_folded rows order)) (folded_each rows each)

  pub each_of_places : (keys : List (List ℕ)) → ((k : ℕ) → k < length keys → P (get_or keys k [])) → Each P keys
  each_of_places [] at = tt
  each_of_places (key ∷ keys) at = (at 0 (omega arith), each_of_places keys (λ k less. at (suc k) (omega (arith, less))))

  pub place_of_each : (keys : List (List ℕ)) (k : ℕ) → Each P keys → k < length keys → P (get_or keys k [])
  place_of_each [] k each less = absurd (omega (arith, less))
  place_of_each (key ∷ keys) zero each less = each.0
  place_of_each (key ∷ keys) (suc k) each less = place_of_each keys k each.1 (omega (arith, less))

-- there are no more keys than rows
shorter : (test : List ℕ → Bool) (keys : List (List ℕ)) → length (filter test keys) ≤ length keys
shorter test [] = omega arith
shorter test (key ∷ keys) = by_test (test key) (shorter test keys)
  where
    by_test : (b : Bool) → length (filter test keys) ≤ length keys → length (cond b (key ∷ filter test keys) (filter test keys)) ≤ suc (length keys)
    by_test true later = omega (arith, later)
    by_test false later = omega (arith, later)

folded_few : (rows : List Row) → length (keys_folded rows) ≤ length rows
folded_few [] = omega arith
folded_few (row ∷ rows) = omega (arith, folded_few rows, shorter (λ key. not (bytes_eq row.key key)) (keys_folded rows))

pub keys_few : (rows : List Row) → AreInRowOrder rows → length (keys_of rows) ≤ length rows
keys_few rows order = omega (arith, folded_few rows, ap length (keys_are_folded rows order))

-- ---- keys in order

pub keys_ascend : (rows : List Row) → AreInRowOrder rows → KeysAscend (keys_of rows)
unfolding keys_of
keys_ascend [] order = tt
keys_ascend (row ∷ rows) order = let (size, rest, runs, after, folded) = keyed row rows order in subst KeysAscend (sym (ap (map (λ run. run.key)) runs)) after

-- no key stands behind a later one
abbrev pub Upwards : List (List ℕ) → Type 0
Upwards [] = Unit {0}
Upwards (key ∷ keys) = Each (IsUpToKey key) keys × Upwards keys

after_each : (key : List ℕ) (keys : List (List ℕ)) → KeysAfter key keys → Each (IsUpToKey key) keys
after_each key [] after = tt
after_each key (k ∷ keys) after =
    let first : IsUpToKey key k = ap is_gt after.0 in
    (first, Each-weaker (IsUpToKey k) (IsUpToKey key) (λ j later. key_chain key k j first later) keys (after_each k keys after.1))

after_upwards : (key : List ℕ) (keys : List (List ℕ)) → KeysAfter key keys → Upwards keys
after_upwards key [] after = tt
after_upwards key (k ∷ keys) after = (after_each k keys after.1, after_upwards k keys after.1)

pub ascending_upwards : (keys : List (List ℕ)) → KeysAscend keys → Upwards keys
ascending_upwards [] up = tt
ascending_upwards (key ∷ keys) up = (after_each key keys up, after_upwards key keys up)

row_upwards : (row : Row) (rows : List Row) → Each (λ next. row_cmp row next ≡ Less) rows → Each (IsUpToKey row.key) (row_keys rows)
row_upwards row [] each = tt
row_upwards row (next ∷ rows) each = (key_upto row next each.0, row_upwards row rows each.1)

pub rows_upwards : (rows : List Row) → AreInRowOrder rows → Upwards (row_keys rows)
rows_upwards [] order = tt
rows_upwards (row ∷ rows) order = (row_upwards row rows order.0, rows_upwards rows order.1)

pub keys_upwards : (rows : List Row) → AreInRowOrder rows → Upwards (keys_of rows)
keys_upwards rows order = ascending_upwards (keys_of rows) (keys_ascend rows order)

-- ---- keys behind another

behind_later : (before : Option (List ℕ)) (k j : List ℕ) → IsUpToKey k j → is_behind before k ≡ true → is_behind before j ≡ true
behind_later None k j up is = refl
behind_later (Some b) k j up is = by_test (is_gt (slice_cmp nat_cmp j b)) refl
  where
    by_test : (v : Bool) → is_gt (slice_cmp nat_cmp j b) ≡ v → is_gt (slice_cmp nat_cmp j b) ≡ true
    by_test true at = at
    by_test false at = absurd (both_ways_off (is_gt (slice_cmp nat_cmp k b)) is (key_chain k j b up at))

not_behind_before : (before : Option (List ℕ)) (k j : List ℕ) → IsUpToKey k j → is_behind before j ≡ false → is_behind before k ≡ false
not_behind_before before k j up is = by_test (is_behind before k) refl
  where
    by_test : (v : Bool) → is_behind before k ≡ v → is_behind before k ≡ false
    by_test true at = absurd (both_ways_off (is_behind before j) (behind_later before k j up at) is)
    by_test false at = at

module _ (before : Option (List ℕ)) where
  -- ---- by halves

  pub behind_on : (keys : List (List ℕ)) (n k : ℕ) → Upwards keys → is_behind before (get_or keys n []) ≡ true → n ≤ k → k < length keys → is_behind before (get_or keys k []) ≡ true
  behind_on [] n k up is from there = absurd (omega (arith, there))
  behind_on (key ∷ keys) zero zero up is from there = is
  behind_on (key ∷ keys) zero (suc k) up is from there = behind_later before key (get_or keys k []) (place_of_each (IsUpToKey key) keys k up.0 (omega (arith, there))) is
  behind_on (key ∷ keys) (suc n) zero up is from there = absurd (omega (arith, from))
  behind_on (key ∷ keys) (suc n) (suc k) up is from there = behind_on keys n k up.1 is (omega (arith, from)) (omega (arith, there))

  pub before_on : (keys : List (List ℕ)) (n k : ℕ) → Upwards keys → n < length keys → is_behind before (get_or keys n []) ≡ false → k < n + 1 → is_behind before (get_or keys k []) ≡ false
  before_on [] n k up there is less = absurd (omega (arith, there))
  before_on (key ∷ keys) zero zero up there is less = is
  before_on (key ∷ keys) zero (suc k) up there is less = absurd (omega (arith, less))
  before_on (key ∷ keys) (suc n) zero up there is less = not_behind_before before key (get_or keys n []) (place_of_each (IsUpToKey key) keys n up.0 (omega (arith, there))) is
  before_on (key ∷ keys) (suc n) (suc k) up there is less = before_on keys n k up.1 (omega (arith, there)) is (omega (arith, less))

  pub first_at : (keys : List (List ℕ)) (n : ℕ) → ((k : ℕ) → k < n → is_behind before (get_or keys k []) ≡ false) → (n < length keys → is_behind before (get_or keys n []) ≡ true) → first_behind before keys ≡ slice_get keys n
  first_at [] n not is = sym (slice_get_past [] n (omega arith))
  first_at (key ∷ keys) zero not is = ap (λ b. cond {A = Option (List ℕ)} b (Some key) (first_behind before keys)) (is (omega arith))
  first_at (key ∷ keys) (suc n) not is =
      ap (λ b. cond {A = Option (List ℕ)} b (Some key) (first_behind before keys)) (not 0 (omega arith))
      ∙ first_at keys n (λ k below. not (suc k) (omega (arith, below))) (λ there. is (omega (arith, there)))

  -- the key of the first row is the first key
  pub first_of_rows : (rows : List Row) → first_key before rows ≡ first_behind before (row_keys rows)
  first_of_rows [] = refl
  first_of_rows (row ∷ rows) = ap (λ o. if is_behind before row.key then Some row.key else o) (first_of_rows rows)

  -- ---- one after the other

  pub none_behind : (keys : List (List ℕ)) → first_behind before keys ≡ None → keys_behind before keys ≡ []
  none_behind [] is = refl
  none_behind (key ∷ keys) is = by_test (is_behind before key) (none_behind keys) is
    where
      by_test : (b : Bool) → (first_behind before keys ≡ None → keys_behind before keys ≡ []) → (if b then Some key else first_behind before keys) ≡ None → cond b (key ∷ keys_behind before keys) (keys_behind before keys) ≡ []
      by_test true later is = cc
      by_test false later is = later is

  behind_is : (keys : List (List ℕ)) (k : List ℕ) → first_behind before keys ≡ Some k → is_behind before k ≡ true
  behind_is [] k is = cc
  behind_is (key ∷ keys) k is = by_test (is_behind before key) refl (behind_is keys k) is
    where
      by_test : (b : Bool) → is_behind before key ≡ b → (first_behind before keys ≡ Some k → is_behind before k ≡ true) → (if b then Some key else first_behind before keys) ≡ Some k → is_behind before k ≡ true
      by_test true here later is = let same : key ≡ k = cc in subst (λ j. is_behind before j ≡ true) same here
      by_test false here later is = later is

  -- what isn't behind the one is not behind what is
  between : (x k : List ℕ) (b : Option (List ℕ)) → is_behind b x ≡ false → is_behind b k ≡ true → is_behind (Some k) x ≡ false
  between x k None off on = cc
  between x k (Some b) off on = key_chain x b k off (greater_back (slice_cmp nat_cmp k b) refl on)
    where
      greater_back : (o : Ordering) → slice_cmp nat_cmp k b ≡ o → is_gt o ≡ true → IsUpToKey b k
      greater_back Less is gt = cc
      greater_back Equal is gt = cc
      greater_back Greater is gt = ap is_gt (nat_list_cmp_total.antisymm b k ∙ ap ordering_reverse is)

  after_behind : (key : List ℕ) (keys : List (List ℕ)) → KeysAfter key keys → Each (λ k. is_behind (Some key) k ≡ true) keys
  after_behind key [] after = tt
  after_behind key (k ∷ keys) after =
      let first : is_behind (Some key) k ≡ true = ap is_gt (nat_list_cmp_total.antisymm k key ∙ ap ordering_reverse after.0) in
      (first, Each-weaker (IsUpToKey k) (λ j. is_behind (Some key) j ≡ true) (λ j up. behind_later (Some key) k j up first) keys (after_each k keys after.1))

  rest_up : (key : List ℕ) (keys : List (List ℕ)) → KeysAfter key keys → KeysAscend keys
  rest_up key [] after = tt
  rest_up key (k ∷ keys) after = after.1

  pub one_behind : (keys : List (List ℕ)) (k : List ℕ) → KeysAscend keys → first_behind before keys ≡ Some k → keys_behind before keys ≡ k ∷ keys_behind (Some k) keys
  one_behind [] k up is = cc
  one_behind (key ∷ keys) k up is = by_test (is_behind before key) refl (one_behind keys k (rest_up key keys up)) is
    where
      itself : is_behind (Some key) key ≡ false
      itself = ap is_gt (tied_itself nat_list_cmp_total key)

      by_test : (b : Bool) → is_behind before key ≡ b → (first_behind before keys ≡ Some k → keys_behind before keys ≡ k ∷ keys_behind (Some k) keys) → (if b then Some key else first_behind before keys) ≡ Some k
          → cond b (key ∷ keys_behind before keys) (keys_behind before keys) ≡ k ∷ keys_behind (Some k) (key ∷ keys)
      by_test true here later is =
          let same : key ≡ k = cc in
          let all : keys_behind before keys ≡ keys = filter_all (is_behind before) keys (Each-weaker (IsUpToKey key) (λ j. is_behind before j ≡ true) (λ j up. behind_later before key j up here) keys (after_each key keys up)) in
          let others : keys_behind (Some key) (key ∷ keys) ≡ keys = ap (λ b. cond b (key ∷ keys_behind (Some key) keys) (keys_behind (Some key) keys)) itself ∙ filter_all (is_behind (Some key)) keys (after_behind key keys up) in
          ap (λ ks. key ∷ ks) (all ∙ sym others) ∙ ap (λ j. j ∷ keys_behind (Some j) (key ∷ keys)) same
      by_test false here later is =
          later is
          ∙ ap (λ ks. k ∷ ks) (sym (ap (λ b. cond b (key ∷ keys_behind (Some k) keys) (keys_behind (Some k) keys)) (between key k before here (behind_is keys k is))))

pub key_there : (rows : List Row) (n : ℕ) (d : Row) → n < length rows → get_or (row_keys rows) n [] ≡ (get_or rows n d).key
key_there [] n d there = absurd (omega (arith, there))
key_there (row ∷ rows) zero d there = refl
key_there (row ∷ rows) (suc n) d there = key_there rows n d (omega (arith, there))

-- ---- a search by halves

-- no key before the one place is behind the key, and each from the other on is
pub record IsCut (before : Option (List ℕ)) (keys : List (List ℕ)) (low high : ℕ) : Type 0 where
  pub ordered : low ≤ high
  pub within : high ≤ length keys
  pub front : (k : ℕ) → k < low → is_behind before (get_or keys k []) ≡ false
  pub back : (k : ℕ) → high ≤ k → k < length keys → is_behind before (get_or keys k []) ≡ true

pub cut_begun : (before : Option (List ℕ)) (keys : List (List ℕ)) (high : ℕ) → high ≡ length keys → IsCut before keys 0 high
cut_begun before keys high is = record {
  ordered = omega arith;
  within = omega (arith, is);
  front = λ k less. absurd (omega (arith, less));
  back = λ k from less. absurd (omega (arith, from, less, is));
}

module _ (before : Option (List ℕ)) (keys : List (List ℕ)) (up : Upwards keys) (low high middle : ℕ) (key : List ℕ) (cut : IsCut before keys low high) (from : low ≤ middle) (to : middle < high) (there : get_or keys middle [] ≡ key) where
  pub cut_lower : true ≡ is_behind before key → IsCut before keys low middle
  cut_lower is = record {
    ordered = from;
    within = omega (arith, to, cut.within);
    front = cut.front;
    back = λ k at less. behind_on before keys middle k up (ap (is_behind before) there ∙ sym is) at less;
  }

  pub cut_higher : false ≡ is_behind before key → IsCut before keys (middle + 1) high
  cut_higher is = record {
    ordered = omega (arith, to);
    within = cut.within;
    front = λ k less. before_on before keys middle k up (omega (arith, to, cut.within)) (ap (is_behind before) there ∙ sym is) less;
    back = cut.back;
  }

pub cut_ended : (before : Option (List ℕ)) (keys : List (List ℕ)) (low high : ℕ) → IsCut before keys low high → high ≤ low → first_behind before keys ≡ slice_get keys low
cut_ended before keys low high cut met = first_at before keys low cut.front (λ there. cut.back low met there)

-- ---- the key of a row that was found

module _ (before : Option (List ℕ)) (rows : List Row) (n : ℕ) (is : first_behind before (row_keys rows) ≡ slice_get (row_keys rows) n) where
  got : first_key before rows ≡ option_map (λ (r : Row). r.key) (slice_get rows n)
  got = first_of_rows before rows ∙ (is ∙ slice_get-map (λ (r : Row). r.key) rows n)

  pub key_got : (row : Row) → Some row ≡ slice_get rows n → Some row.key ≡ first_key before rows
  key_got row at = sym (got ∙ ap (option_map (λ (r : Row). r.key)) (sym at))

  pub no_key_got : None ≡ slice_get rows n → None ≡ first_key before rows
  no_key_got at = sym (got ∙ ap (option_map (λ (r : Row). r.key)) (sym at))

pub all_ahead : (keys : List (List ℕ)) → keys_behind None keys ≡ keys
all_ahead keys = filter_all (is_behind None) keys (Each-all (λ k. is_behind None k ≡ true) (λ k. refl) keys)

pub row_keys_length : (rows : List Row) → length (row_keys rows) ≡ length rows
row_keys_length rows = length-map rows (λ (r : Row). r.key)

-- there are no more series than documents
pub keys_bound : (schema : Schema) (rows : List Row) → AreRowsOf schema rows → length (keys_of rows) ≤ most_documents
keys_bound schema rows are = omega (arith, keys_few rows are.in_order, length_documents schema rows are.each, are.few)
