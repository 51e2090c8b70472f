-- Rows of shards together: each series in its shard alone, and one shard exchanged for another.
use Rattle.std.specs.Prelude.{◌≡◌, ℕ, zero, suc, ◌+◌, ◌<◌, ◌≤◌, Bool, true, false, List, [], ◌∷◌, ◌++◌, length, filter, slice_index_or, slice_set}
use Rattle.std.specs.declared.cmp.Ordering.TheVariants.{Equal}
use Rattle.std.proofs.Common.{refl, ap, ◌∙◌, arith, append-nil}
use Rattle.std.proofs.lemmas.List.Elements.{filter-append}
use Rattle.row_cells.specs.declared.rows.Row.{Row}
use Rattle.row_cells.specs.declared.schemas.Schema.{Schema}
use Rattle.row_cells.specs.Each.{Each}
use Rattle.row_cells.specs.EachLaws.{Each-weaker, filter_none}
use Rattle.row_cells.specs.KeyedRows.{IsRowOf}
use Rattle.row_cells.specs.Order.{row_cmp}
use Rattle.row_cells.specs.OrderLaws.{tied_rows}
use Rattle.row_cells.specs.PlaceLaws.{distinct_append, each_append, insert_between}
use Rattle.row_cells.specs.RowLists.{AreApart, AreDistinct, has_place}
use Rattle.tsds_index.specs.Sound.{AreOfShard, ArePartsFrom, IsPart, shard_for}
use Rattle.tsds_index.specs.Spread.{Part, all_rows, no_part, rows_in}
use Rattle.tsds_index.proofs.Alike.{Alike, alike_behind, alike_front}
use Rattle.tsds_index.proofs.Joined.{free_parts, part_each}

module _ (schema : Schema) (shards : ℕ) where
  -- shards from a number on have rows of series that go there
  at_least : (at : ℕ) (ps : List Part) → ArePartsFrom schema shards at ps → Each (λ row. at ≤ shard_for schema shards row.key) (all_rows ps)
  at_least at [] are = tt
  at_least at (p ∷ ps) are =
      each_append (λ row. at ≤ shard_for schema shards row.key) (rows_in p) (all_rows ps)
      (Each-weaker (λ row. shard_for schema shards row.key ≡ at) (λ row. at ≤ shard_for schema shards row.key) (λ row is. omega (arith, is)) (rows_in p) are.1)
      (Each-weaker (λ row. suc at ≤ shard_for schema shards row.key) (λ row. at ≤ shard_for schema shards row.key) (λ row least. omega (arith, least)) (all_rows ps) (at_least (suc at) ps are.2))

  pub all_each : (at : ℕ) (ps : List Part) → ArePartsFrom schema shards at ps → Each (IsRowOf schema) (all_rows ps)
  all_each at [] are = tt
  all_each at (p ∷ ps) are = each_append (IsRowOf schema) (rows_in p) (all_rows ps) (part_each schema p are.0) (all_each (suc at) ps are.2)

  apart_from : (at : ℕ) (rows others : List Row) → Each (λ row. shard_for schema shards row.key ≡ at) rows → Each (λ row. suc at ≤ shard_for schema shards row.key) others → AreApart rows others
  apart_from at rows others here there =
      Each-weaker (λ row. shard_for schema shards row.key ≡ at) (λ row. Each (λ other. row_cmp row other ≡ Equal → ⊥) others) (λ row is.
      Each-weaker (λ other. suc at ≤ shard_for schema shards other.key) (λ other. row_cmp row other ≡ Equal → ⊥) (λ other least tied.
      let same : shard_for schema shards row.key ≡ shard_for schema shards other.key = ap (shard_for schema shards) (tied_rows row other tied).0 in
      absurd (omega (arith, same, is, least))) others there) rows here

  pub all_distinct : (at : ℕ) (ps : List Part) → ArePartsFrom schema shards at ps → AreDistinct (all_rows ps)
  all_distinct at [] are = tt
  all_distinct at (p ∷ ps) are =
      (distinct_append (rows_in p) (all_rows ps)).1 (are.0.distinct, all_distinct (suc at) ps are.2, apart_from at (rows_in p) (all_rows ps) are.1 (at_least (suc at) ps are.2))

  -- ---- rows of a series

  none_of : (test : Row → Bool) (shard : ℕ) (rows : List Row) → ((row : Row) → test row ≡ true → shard_for schema shards row.key ≡ shard) → Each (λ row. shard_for schema shards row.key ≡ shard → ⊥) rows → filter test rows ≡ []
  none_of test shard rows chosen others =
      filter_none test rows (Each-weaker (λ row. shard_for schema shards row.key ≡ shard → ⊥) (λ row. test row ≡ false) (λ row other. by_test row other (test row) refl) rows others)
    where
      by_test : (row : Row) → (shard_for schema shards row.key ≡ shard → ⊥) → (b : Bool) → test row ≡ b → test row ≡ false
      by_test row other true is = absurd (other (chosen row is))
      by_test row other false is = is

  -- a test that takes rows of a shard alone takes those of all shards that it takes there
  pub one_part : (test : Row → Bool) (at i : ℕ) (ps : List Part) → ((row : Row) → test row ≡ true → shard_for schema shards row.key ≡ at + i) → i < length ps → ArePartsFrom schema shards at ps → filter test (all_rows ps) ≡ filter test (rows_in (slice_index_or ps i no_part))
  one_part test at i [] chosen within are = absurd (omega (arith, within))
  one_part test at zero (p ∷ ps) chosen within are =
      filter-append test (rows_in p) (all_rows ps)
      ∙ (ap (λ rows. filter test (rows_in p) ++ rows) (none_of test (at + 0) (all_rows ps) chosen (Each-weaker (λ row. suc at ≤ shard_for schema shards row.key) (λ row. shard_for schema shards row.key ≡ at + 0 → ⊥) (λ row least is. absurd (omega (arith, least, is))) (all_rows ps) (at_least (suc at) ps are.2)))
      ∙ append-nil (filter test (rows_in p)))
  one_part test at (suc i) (p ∷ ps) chosen within are =
      filter-append test (rows_in p) (all_rows ps)
      ∙ (ap (λ rows. rows ++ filter test (all_rows ps)) (none_of test (at + suc i) (rows_in p) chosen (Each-weaker (λ row. shard_for schema shards row.key ≡ at) (λ row. shard_for schema shards row.key ≡ at + suc i → ⊥) (λ row here is. absurd (omega (arith, here, is))) (rows_in p) are.1))
      ∙ one_part test (suc at) i ps (λ row is. omega (arith, chosen row is)) (omega (arith, within)) are.2)

  -- ---- one shard exchanged

  pub set_parts : (at i : ℕ) (ps : List Part) (q : Part) → i < length ps → ArePartsFrom schema shards at ps → IsPart schema q → AreOfShard schema shards (at + i) (rows_in q) → ArePartsFrom schema shards at (slice_set ps i q)
  set_parts at i [] q within are is of = absurd (omega (arith, within))
  set_parts at zero (p ∷ ps) q within are is of =
      (is, Each-weaker (λ row. shard_for schema shards row.key ≡ at + 0) (λ row. shard_for schema shards row.key ≡ at) (λ row there. omega (arith, there)) (rows_in q) of, are.2)
  set_parts at (suc i) (p ∷ ps) q within are is of = (
    are.0,
    are.1,
    set_parts (suc at) i ps q (omega (arith, within)) are.2 is
        (Each-weaker (λ row. shard_for schema shards row.key ≡ at + suc i) (λ row. shard_for schema shards row.key ≡ suc at + i) (λ row there. omega (arith, there)) (rows_in q) of),
  )

  pub part_is : (at i : ℕ) (ps : List Part) → i < length ps → ArePartsFrom schema shards at ps → IsPart schema (slice_index_or ps i no_part) × AreOfShard schema shards (at + i) (rows_in (slice_index_or ps i no_part))
  part_is at i [] within are = absurd (omega (arith, within))
  part_is at zero (p ∷ ps) within are =
      (are.0, Each-weaker (λ row. shard_for schema shards row.key ≡ at) (λ row. shard_for schema shards row.key ≡ at + 0) (λ row there. omega (arith, there)) (rows_in p) are.1)
  part_is at (suc i) (p ∷ ps) within are =
      let later = part_is (suc at) i ps (omega (arith, within)) are.2 in
      (later.0, Each-weaker (λ row. shard_for schema shards row.key ≡ suc at + i) (λ row. shard_for schema shards row.key ≡ at + suc i) (λ row there. omega (arith, there)) (rows_in (slice_index_or ps i no_part)) later.1)

pub set_alike : (i : ℕ) (ps : List Part) (q : Part) → i < length ps → Alike (rows_in q) (rows_in (slice_index_or ps i no_part)) → Alike (all_rows (slice_set ps i q)) (all_rows ps)
set_alike i [] q within alike = absurd (omega (arith, within))
set_alike zero (p ∷ ps) q within alike = alike_front (rows_in q) (rows_in p) (all_rows ps) alike
set_alike (suc i) (p ∷ ps) q within alike = alike_behind (rows_in p) (all_rows (slice_set ps i q)) (all_rows ps) (set_alike i ps q (omega (arith, within)) alike)

-- a shard with a row more that no shard has
pub set_more : (row : Row) (i : ℕ) (ps : List Part) (q : Part) → i < length ps → Alike (rows_in q) (row ∷ rows_in (slice_index_or ps i no_part)) → AreDistinct (all_rows ps) → has_place row.key row.time (all_rows ps) ≡ false → Alike (all_rows (slice_set ps i q)) (row ∷ all_rows ps)
set_more row i [] q within alike distinct free = absurd (omega (arith, within))
set_more row zero (p ∷ ps) q within alike distinct free = alike_front (rows_in q) (row ∷ rows_in p) (all_rows ps) alike
set_more row (suc i) (p ∷ ps) q within alike distinct free =
    alike_behind (rows_in p) (all_rows (slice_set ps i q)) (row ∷ all_rows ps)
    (set_more row i ps q (omega (arith, within)) alike ((distinct_append (rows_in p) (all_rows ps)).0 distinct).1 (free_parts row (rows_in p) (all_rows ps) free).1)
    ∙ insert_between (rows_in p) (all_rows ps) row distinct free
