-- The parts of the rows of two segments, by the parts of both.
use Rattle.std.specs.Prelude.{◌≡◌, ℕ, ℤ, pos, ◌+◌, ◌≤◌, List, [], ◌∷◌, ◌++◌, length, map}
use Rattle.std.proofs.Common.{refl, ap, sym, subst, ◌∙◌, arith}
use Rattle.std.proofs.lemmas.List.{length-map}
use Rattle.row_cells.specs.Limits.{most_documents}
use Rattle.row_cells.specs.declared.schemas.Schema.{Schema}
use Rattle.row_cells.specs.declared.rows.Row.{Row}
use Rattle.row_cells.specs.Mapped.{IsMapped}
use Rattle.row_cells.specs.RowLists.{documents, in_row_order, AreApart}
use Rattle.column_block.specs.declared.kinds.Values.{Values}
use Rattle.index_segment.specs.Columns.{ArePackable, columns_of}
use Rattle.index_segment.specs.declared.shares.Counts.{Counts}
use Rattle.index_segment.specs.Directory.{Run, runs_of, row_keys, keys_of, sizes_of}
use Rattle.index_segment.specs.Held.{Held, Packs}
use Rattle.index_segment.specs.Joining.{keys_of_joints, rows_of_joints}
use Rattle.index_segment.specs.Merging.{Joint, Side, firsts, joined_series, joint_sizes, listed, picked, picked_columns, seconds, sides_of_series}
use Rattle.row_cells.specs.KeyedRows.{AreRowsOf, IsRowOf}
use Rattle.index_segment.specs.Spelling.{counted, counts_of, times_of}
use Rattle.index_segment.proofs.Fit.{rows_few}
use Rattle.index_segment.proofs.Merged.{merged, merged_documents, merged_each, merged_in_order, merged_sorted}
use Rattle.index_segment.proofs.Packable.{rows_packable}
use Rattle.index_segment.proofs.Picked.{columns_long, columns_picked}
use Rattle.index_segment.proofs.Sides.{picked_map}
use Rattle.index_segment.proofs.Weaving.{Jointly, firsts_all, grouped, joint_runs, jointly, run_of_joint, seconds_all, woven}

-- ---- lists of series

listed_runs : (runs : List Run) → listed (map (λ run. run.key) runs) (counted (map (λ run. run.size) runs)) ≡ runs
listed_runs [] = refl
listed_runs (run ∷ runs) = ap (λ rest. run ∷ rest) (listed_runs runs)

pub listed_rows : (rows : List Row) → listed (keys_of rows) (counted (sizes_of rows)) ≡ runs_of (row_keys rows)
unfolding keys_of sizes_of
listed_rows rows = listed_runs (runs_of (row_keys rows))

pub same_long : (rows : List Row) → length (counted (sizes_of rows)) ≡ length (keys_of rows)
unfolding keys_of sizes_of
same_long rows = long (runs_of (row_keys rows))
  where
    long : (runs : List Run) → length (counted (map (λ run. run.size) runs)) ≡ length (map (λ run. run.key) runs)
    long [] = refl
    long (run ∷ runs) = omega (arith, long runs)

joint_keys : (js : List Joint) → map (λ run. run.key) (map run_of_joint js) ≡ keys_of_joints js
joint_keys [] = refl
joint_keys (j ∷ js) = ap (λ keys. j.key ∷ keys) (joint_keys js)

joint_counts : (js : List Joint) → map (λ run. run.size) (map run_of_joint js) ≡ joint_sizes (rows_of_joints js)
joint_counts [] = refl
joint_counts (j ∷ js) = ap (λ sizes. (j.rows.first + j.rows.second) ∷ sizes) (joint_counts js)

-- ---- the rows of both

abbrev pub series : List Row → List Row → List Joint
series a b = joined_series (runs_of (row_keys a)) (runs_of (row_keys b))

abbrev pub both : List Row → List Row → List Row
both a b = in_row_order (a ++ b)

-- where each row of both comes from
abbrev pub origins : List Row → List Row → List Side
origins a b = sides_of_series (rows_of_joints (series a b)) (times_of a) (times_of b)

-- the parts of the rows of both are those of either, as their series and times say
pub record IsMended (schema : Schema) (a b : List Row) : Type 0 where
  pub rows_are : AreRowsOf schema (both a b)
  pub keys_are : keys_of_joints (series a b) ≡ keys_of (both a b)
  pub sizes_are : joint_sizes (rows_of_joints (series a b)) ≡ sizes_of (both a b)
  pub times_are : picked (origins a b) (times_of a) (times_of b) ≡ times_of (both a b)
  pub counts_are : picked (origins a b) (counts_of a) (counts_of b) ≡ counts_of (both a b)
  pub columns_are : picked_columns (origins a b) (columns_of schema a) (columns_of schema b) ≡ columns_of schema (both a b)
  pub firsts_are : firsts (rows_of_joints (series a b)) ≡ length (times_of a)
  pub seconds_are : seconds (rows_of_joints (series a b)) ≡ length (times_of b)
  pub rows_within : firsts (rows_of_joints (series a b)) + seconds (rows_of_joints (series a b)) ≤ most_documents

module _ (schema : Schema) (a b : List Row) (are : AreRowsOf schema a) (are_too : AreRowsOf schema b) (apart : AreApart a b) (few : documents a + documents b ≤ most_documents) where
  joint : Jointly (series a b) a b
  joint = jointly (runs_of (row_keys a)) (runs_of (row_keys b)) a b (grouped a are.in_order) (grouped b are_too.in_order)

  is_merged : both a b ≡ merged a b
  is_merged = merged_sorted a b are.in_order are_too.in_order apart

  merged_are : AreRowsOf schema (merged a b)
  merged_are = record {
    each = merged_each (IsRowOf schema) a b are.each are_too.each;
    in_order = merged_in_order a b are.in_order are_too.in_order apart;
    few = omega (arith, merged_documents a b, few);
  }

  picks : picked (origins a b) a b ≡ both a b
  picks = woven (series a b) a b joint ∙ sym is_merged

  runs_are : runs_of (row_keys (both a b)) ≡ map run_of_joint (series a b)
  runs_are = ap (λ rows. runs_of (row_keys rows)) is_merged ∙ joint_runs (series a b) a b joint

  keys_both : keys_of_joints (series a b) ≡ keys_of (both a b)
  unfolding keys_of
  keys_both = sym (joint_keys (series a b)) ∙ ap (map (λ run. run.key)) (sym runs_are)

  sizes_both : joint_sizes (rows_of_joints (series a b)) ≡ sizes_of (both a b)
  unfolding sizes_of
  sizes_both = sym (joint_counts (series a b)) ∙ ap (map (λ run. run.size)) (sym runs_are)

  pub mended : IsMended schema a b
  mended = record {
    rows_are = subst (AreRowsOf schema) (sym is_merged) merged_are;
    keys_are = keys_both;
    sizes_are = sizes_both;
    times_are = sym (picked_map (λ (row : Row). row.time) (origins a b) a b) ∙ ap times_of picks;
    counts_are = sym (picked_map (λ (row : Row). pos row.count) (origins a b) a b) ∙ ap counts_of picks;
    columns_are = sym (columns_picked (origins a b) schema a b) ∙ ap (columns_of schema) picks;
    firsts_are = firsts_all (series a b) a b joint ∙ sym (length-map a (λ row. row.time));
    seconds_are = seconds_all (series a b) a b joint ∙ sym (length-map b (λ row. row.time));
    rows_within = omega (arith, firsts_all (series a b) a b joint, seconds_all (series a b) a b joint, rows_few schema a are.each, rows_few schema b are_too.each, few);
  }

pub packable : (schema : Schema) (rows : List Row) → AreRowsOf schema rows → ArePackable (columns_of schema rows)
unfolding columns_of
packable schema rows are = rows_packable schema rows are

-- ---- the parts of two segments

-- what the parts of two segments say of the rows of both
pub record AreMended (s : Schema) (a b : List Row) (ks ls : List (List ℕ)) (ns ms times times_too counts counts_too : List ℤ) (columns columns_too : List Values) : Type 0 where
  pub mended : IsMended s a b
  pub mapped : IsMapped s
  pub first_long : length ns ≡ length ks
  pub second_long : length ms ≡ length ls
  pub joined_are : joined_series (listed ks ns) (listed ls ms) ≡ series a b
  pub times_are : times ≡ times_of a
  pub times_are_too : times_too ≡ times_of b
  pub counts_are : counts ≡ counts_of a
  pub counts_are_too : counts_too ≡ counts_of b
  pub columns_are : columns ≡ columns_of s a
  pub columns_are_too : columns_too ≡ columns_of s b
  pub packable_first : ArePackable columns
  pub packable_second : ArePackable columns_too
  pub columns_long : length columns_too ≡ length columns

pub are_mended : (s t : Schema) (a b rows rows_too : List Row) (ks ls : List (List ℕ)) (starts starts_too : List ℕ) (ns ms times times_too counts counts_too : List ℤ) (columns columns_too : List Values) → Packs s a ks starts ns times counts columns → Packs t b ls starts_too ms times_too counts_too columns_too → t ≡ s → a ≡ rows → b ≡ rows_too → AreApart rows rows_too → documents rows + documents rows_too ≤ most_documents → AreMended s a b ks ls ns ms times times_too counts counts_too columns columns_too
are_mended s t a b rows rows_too ks ls starts starts_too ns ms times times_too counts counts_too columns columns_too first second same a_is b_is apart few =
    let apart_here : AreApart a b = subst (λ xs. AreApart xs b) (sym a_is) (subst (AreApart rows) (sym b_is) apart) in
    let few_here : documents a + documents b ≤ most_documents = subst (λ xs. documents xs + documents b ≤ most_documents) (sym a_is) (subst (λ ys. documents rows + documents ys ≤ most_documents) (sym b_is) few) in
    let second_are : AreRowsOf s b = subst (λ schema. AreRowsOf schema b) same second.rows_are in
    let columns_second : columns_too ≡ columns_of s b = second.columns_are ∙ ap (λ schema. columns_of schema b) same in
    let listed_first : listed ks ns ≡ runs_of (row_keys a) = ap (λ keys. listed keys ns) first.keys_are ∙ (ap (listed (keys_of a)) first.sizes_are ∙ listed_rows a) in
    let listed_second : listed ls ms ≡ runs_of (row_keys b) = ap (λ keys. listed keys ms) second.keys_are ∙ (ap (listed (keys_of b)) second.sizes_are ∙ listed_rows b) in
    record {
      mended = mended s a b first.rows_are second_are apart_here few_here;
      mapped = first.mapped;
      first_long = ap length first.sizes_are ∙ (same_long a ∙ sym (ap length first.keys_are));
      second_long = ap length second.sizes_are ∙ (same_long b ∙ sym (ap length second.keys_are));
      joined_are = ap (λ rs. joined_series rs (listed ls ms)) listed_first ∙ ap (joined_series (runs_of (row_keys a))) listed_second;
      times_are = first.times_are;
      times_are_too = second.times_are;
      counts_are = first.counts_are;
      counts_are_too = second.counts_are;
      columns_are = first.columns_are;
      columns_are_too = columns_second;
      packable_first = subst ArePackable (sym first.columns_are) (packable s a first.rows_are);
      packable_second = subst ArePackable (sym columns_second) (packable s b second_are);
      columns_long = ap length columns_second ∙ (columns_long s b a ∙ sym (ap length first.columns_are));
    }

abbrev seen : Schema → List Row → Held
seen schema rows = record { schema = schema; rows = rows }

-- the same of two segments that are seen as their schemas and rows
pub mends : (h g : Held) (s t : Schema) (a b : List Row) (ks ls : List (List ℕ)) (starts starts_too : List ℕ) (ns ms times times_too counts counts_too : List ℤ) (columns columns_too : List Values) → seen s a ≡ h → seen t b ≡ g → Packs s a ks starts ns times counts columns → Packs t b ls starts_too ms times_too counts_too columns_too → g.schema ≡ h.schema → AreApart h.rows g.rows → documents h.rows + documents g.rows ≤ most_documents → AreMended s a b ks ls ns ms times times_too counts counts_too columns columns_too
mends h g s t a b ks ls starts starts_too ns ms times times_too counts counts_too columns columns_too first_is second_is first second same apart few =
    are_mended s t a b h.rows g.rows ks ls starts starts_too ns ms times times_too counts counts_too columns columns_too first second
    (ap (λ (held : Held). held.schema) second_is ∙ (same ∙ sym (ap (λ (held : Held). held.schema) first_is)))
    (ap (λ (held : Held). held.rows) first_is) (ap (λ (held : Held). held.rows) second_is) apart few

-- what the code made of slices of the parts
module _ (s : Schema) (a b : List Row) (ks ls : List (List ℕ)) (ns ms times times_too counts counts_too : List ℤ) (columns columns_too : List Values) (m : AreMended s a b ks ls ns ms times times_too counts counts_too columns columns_too) where
  joined_made : (keys others : List (List ℕ)) (sizes sizes_too : List ℤ) → keys ≡ ks → sizes ≡ ns → others ≡ ls → sizes_too ≡ ms → joined_series (listed keys sizes) (listed others sizes_too) ≡ series a b
  joined_made keys others sizes sizes_too keys_are sizes_are others_are sizes_are_too =
      let same : joined_series (listed keys sizes) (listed others sizes_too) ≡ joined_series (listed ks ns) (listed ls ms) = cc in
      same ∙ m.joined_are

  pub keys_made : (keys others : List (List ℕ)) (sizes sizes_too : List ℤ) → keys ≡ ks → sizes ≡ ns → others ≡ ls → sizes_too ≡ ms → keys_of_joints (joined_series (listed keys sizes) (listed others sizes_too)) ≡ keys_of (both a b)
  keys_made keys others sizes sizes_too keys_are sizes_are others_are sizes_are_too = ap keys_of_joints (joined_made keys others sizes sizes_too keys_are sizes_are others_are sizes_are_too) ∙ m.mended.keys_are

  pub rows_made : (keys others : List (List ℕ)) (sizes sizes_too : List ℤ) → keys ≡ ks → sizes ≡ ns → others ≡ ls → sizes_too ≡ ms → rows_of_joints (joined_series (listed keys sizes) (listed others sizes_too)) ≡ rows_of_joints (series a b)
  rows_made keys others sizes sizes_too keys_are sizes_are others_are sizes_are_too = ap rows_of_joints (joined_made keys others sizes sizes_too keys_are sizes_are others_are sizes_are_too)

  pub sides_made : (rows : List Counts) (first second : List ℤ) → rows ≡ rows_of_joints (series a b) → first ≡ times → second ≡ times_too → sides_of_series rows first second ≡ origins a b
  sides_made rows first second rows_are first_is second_is =
      ap (λ cs. sides_of_series cs first second) rows_are
      ∙ (ap (λ ts. sides_of_series (rows_of_joints (series a b)) ts second) (first_is ∙ m.times_are)
      ∙ ap (sides_of_series (rows_of_joints (series a b)) (times_of a)) (second_is ∙ m.times_are_too))

  picked_made : (ss : List Side) (xs ys xs' ys' : List ℤ) → ss ≡ origins a b → xs ≡ xs' → ys ≡ ys' → picked ss xs ys ≡ picked (origins a b) xs' ys'
  picked_made ss xs ys xs' ys' ss_is xs_are ys_are = ap (λ sides. picked sides xs ys) ss_is ∙ (ap (λ zs. picked (origins a b) zs ys) xs_are ∙ ap (picked (origins a b) xs') ys_are)

  pub times_made : (ss : List Side) (first second : List ℤ) → ss ≡ origins a b → first ≡ times → second ≡ times_too → picked ss first second ≡ times_of (both a b)
  times_made ss first second ss_is first_is second_is = picked_made ss first second (times_of a) (times_of b) ss_is (first_is ∙ m.times_are) (second_is ∙ m.times_are_too) ∙ m.mended.times_are

  pub counts_made : (ss : List Side) (first second : List ℤ) → ss ≡ origins a b → first ≡ counts → second ≡ counts_too → picked ss first second ≡ counts_of (both a b)
  counts_made ss first second ss_is first_is second_is = picked_made ss first second (counts_of a) (counts_of b) ss_is (first_is ∙ m.counts_are) (second_is ∙ m.counts_are_too) ∙ m.mended.counts_are

  pub columns_made : (ss : List Side) (first second : List Values) → ss ≡ origins a b → first ≡ columns → second ≡ columns_too → picked_columns ss first second ≡ columns_of s (both a b)
  columns_made ss first second ss_is first_is second_is =
      ap (λ sides. picked_columns sides first second) ss_is
      ∙ (ap (λ vs. picked_columns (origins a b) vs second) (first_is ∙ m.columns_are)
      ∙ (ap (picked_columns (origins a b) (columns_of s a)) (second_is ∙ m.columns_are_too) ∙ m.mended.columns_are))

  pub columns_packable : (ss : List Side) (first second : List Values) → ss ≡ origins a b → first ≡ columns → second ≡ columns_too → ArePackable (picked_columns ss first second)
  columns_packable ss first second ss_is first_is second_is = subst ArePackable (sym (columns_made ss first second ss_is first_is second_is)) (packable s (both a b) m.mended.rows_are)

  pub firsts_made : (rows : List Counts) (first : List ℤ) → rows ≡ rows_of_joints (series a b) → first ≡ times → firsts rows ≤ length first
  firsts_made rows first rows_are first_is =
      let one = ap firsts rows_are in
      let long : length first ≡ length (times_of a) = ap length (first_is ∙ m.times_are) in
      omega (arith, one, long, m.mended.firsts_are)

  pub seconds_made : (rows : List Counts) (second : List ℤ) → rows ≡ rows_of_joints (series a b) → second ≡ times_too → seconds rows ≤ length second
  seconds_made rows second rows_are second_is =
      let one = ap seconds rows_are in
      let long : length second ≡ length (times_of b) = ap length (second_is ∙ m.times_are_too) in
      omega (arith, one, long, m.mended.seconds_are)

  pub few_made : (rows : List Counts) → rows ≡ rows_of_joints (series a b) → firsts rows + seconds rows ≤ most_documents
  few_made rows rows_are = subst (λ cs. firsts cs + seconds cs ≤ most_documents) (sym rows_are) m.mended.rows_within

  pub sizes_made : (rows : List Counts) → rows ≡ rows_of_joints (series a b) → joint_sizes rows ≡ sizes_of (both a b)
  sizes_made rows rows_are = ap joint_sizes rows_are ∙ m.mended.sizes_are

pub both_seen : (a b rows rows_too : List Row) → a ≡ rows → b ≡ rows_too → both a b ≡ in_row_order (rows ++ rows_too)
both_seen a b rows rows_too a_is b_is = ap (λ xs. in_row_order (xs ++ b)) a_is ∙ ap (λ ys. in_row_order (rows ++ ys)) b_is
