-- Rows of an index that stand together or pass a test are rows of an index, and the first row of a series is its latest.
use Rattle.std.specs.Prelude.{◌≡◌, ℕ, zero, suc, ◌<ℤ◌, ◌+◌, ◌-◌, ◌≤◌, Bool, true, false, cond, List, [], ◌∷◌, take, drop, slice_range, filter}
use Rattle.std.specs.Str.{bytes_eq}
use Rattle.std.specs.Cmp.{tied_itself}
use Rattle.std.specs.Cmp.Lexicographic.{slice_cmp, nat_list_cmp_total}
use Rattle.std.specs.Ordering.{int_cmp, nat_cmp, ordering_then}
use Rattle.std.specs.declared.cmp.Ordering.TheVariants.{Less, Equal}
use Rattle.std.proofs.Common.{refl, ap, sym, subst, ◌∙◌, arith}
use Rattle.std.proofs.lemmas.Cmp.{int_ranked}
use Rattle.std.proofs.lemmas.Slice.Eq.{bytes_eq-Decides}
use Rattle.row_cells.specs.declared.schemas.Schema.{Schema}
use Rattle.row_cells.specs.declared.rows.Row.{Row}
use Rattle.row_cells.specs.Each.{Each}
use Rattle.row_cells.specs.EachLaws.{Each-both, Each-filter}
use Rattle.row_cells.specs.KeyedRows.{IsRowOf, AreRowsOf}
use Rattle.row_cells.specs.Order.{row_cmp}
use Rattle.row_cells.specs.RowLists.{AreInRowOrder, documents}

-- ---- a range

pub each_drop : {A : Type 0} (P : A → Type 0) (n : ℕ) (xs : List A) → Each P xs → Each P (drop n xs)
each_drop P zero xs all = all
each_drop P (suc n) [] all = tt
each_drop P (suc n) (x ∷ xs) all = each_drop P n xs all.1

pub each_take : {A : Type 0} (P : A → Type 0) (n : ℕ) (xs : List A) → Each P xs → Each P (take n xs)
each_take P zero xs all = tt
each_take P (suc n) [] all = tt
each_take P (suc n) (x ∷ xs) all = (all.0, each_take P n xs all.1)

pub in_order-drop : (n : ℕ) (rows : List Row) → AreInRowOrder rows → AreInRowOrder (drop n rows)
in_order-drop zero rows are = are
in_order-drop (suc n) [] are = tt
in_order-drop (suc n) (row ∷ rows) are = in_order-drop n rows are.1

pub in_order-take : (n : ℕ) (rows : List Row) → AreInRowOrder rows → AreInRowOrder (take n rows)
in_order-take zero rows are = tt
in_order-take (suc n) [] are = tt
in_order-take (suc n) (row ∷ rows) are = (each_take (λ next. row_cmp row next ≡ Less) n rows are.0, in_order-take n rows are.1)

pub documents_parts : (n : ℕ) (rows : List Row) → documents (take n rows) + documents (drop n rows) ≡ documents rows
documents_parts zero rows = omega arith
documents_parts (suc n) [] = refl
documents_parts (suc n) (row ∷ rows) = omega (arith, documents_parts n rows)

pub range_is_rows : (schema : Schema) (rows : List Row) (from to : ℕ) → AreRowsOf schema rows → AreRowsOf schema (slice_range rows from to)
range_is_rows schema rows from to are = record {
  each = each_take (IsRowOf schema) (to - from) (drop from rows) (each_drop (IsRowOf schema) from rows are.each);
  in_order = in_order-take (to - from) (drop from rows) (in_order-drop from rows are.in_order);
  few = omega (arith, documents_parts (to - from) (drop from rows), documents_parts from rows, are.few);
}

-- ---- a test

module _ (test : Row → Bool) where
  pub in_order-filter : (rows : List Row) → AreInRowOrder rows → AreInRowOrder (filter test rows)
  in_order-filter [] are = tt
  in_order-filter (row ∷ rows) are = by_test (test row) (in_order-filter rows are.1)
    where
      by_test : (b : Bool) → AreInRowOrder (filter test rows) → AreInRowOrder (cond b (row ∷ filter test rows) (filter test rows))
      by_test true later = (Each-filter (λ next. row_cmp row next ≡ Less) test rows are.0, later)
      by_test false later = later

  documents-filter : (rows : List Row) → documents (filter test rows) ≤ documents rows
  documents-filter [] = omega arith
  documents-filter (row ∷ rows) = by_test (test row) (documents-filter rows)
    where
      by_test : (b : Bool) → documents (filter test rows) ≤ documents rows → documents (cond b (row ∷ filter test rows) (filter test rows)) ≤ row.count + documents rows
      by_test true later = omega (arith, later)
      by_test false later = omega (arith, later)

  pub passing : (rows : List Row) → Each (λ row. test row ≡ true) (filter test rows)
  passing [] = tt
  passing (row ∷ rows) = by_test (test row) refl (passing rows)
    where
      by_test : (b : Bool) → test row ≡ b → Each (λ r. test r ≡ true) (filter test rows) → Each (λ r. test r ≡ true) (cond b (row ∷ filter test rows) (filter test rows))
      by_test true is later = (is, later)
      by_test false is later = later

  pub filter_is_rows : (schema : Schema) (rows : List Row) → AreRowsOf schema rows → AreRowsOf schema (filter test rows)
  filter_is_rows schema rows are = record {
    each = Each-filter (IsRowOf schema) test rows are.each;
    in_order = in_order-filter rows are.in_order;
    few = omega (arith, documents-filter rows, are.few);
  }

-- ---- the latest row

-- of two rows of one series in row order the first is the later one
pub earlier_behind : (a b : Row) → row_cmp a b ≡ Less → a.key ≡ b.key → b.time <ℤ a.time
earlier_behind a b less same =
    let tied : slice_cmp nat_cmp a.key b.key ≡ Equal = ap (λ k. slice_cmp nat_cmp a.key k) (sym same) ∙ tied_itself nat_list_cmp_total a.key in
    let by_time : Less ≡ int_cmp b.time a.time = sym less ∙ ap (λ o. ordering_then o (int_cmp b.time a.time)) tied in
    int_ranked b.time a.time Less by_time

-- all rows of a series behind its first one are earlier
pub latest_first : (key : List ℕ) (rows : List Row) (row : Row) (rest : List Row) → AreInRowOrder rows → filter (λ r. bytes_eq r.key key) rows ≡ row ∷ rest → Each (λ r. r.time <ℤ row.time) rest
latest_first key rows row rest are is =
    let sorted : AreInRowOrder (row ∷ rest) = subst (λ rs. AreInRowOrder rs) is (in_order-filter (λ r. bytes_eq r.key key) rows are) in
    let same : Each (λ r. bytes_eq r.key key ≡ true) (row ∷ rest) = subst (λ rs. Each (λ r. bytes_eq r.key key ≡ true) rs) is (passing (λ r. bytes_eq r.key key) rows) in
    let key_is : row.key ≡ key = (bytes_eq-Decides row.key key).0 same.0 in
    Each-both (λ r. row_cmp row r ≡ Less) (λ r. bytes_eq r.key key ≡ true) (λ r. r.time <ℤ row.time) (λ r less there. earlier_behind row r less (key_is ∙ sym ((bytes_eq-Decides r.key key).0 there))) rest sorted.0 same.1
