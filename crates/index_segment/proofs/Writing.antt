-- What is written of the parts of a segment is the segment of its rows.
use Rattle.std.specs.Prelude.{◌≡◌, ℕ, ℤ, ◌+◌, ◌^◌, ◌<◌, ◌≤◌, Bool, true, false, cond, List, [], ◌∷◌, ◌++◌, length}
use Rattle.std.specs.Str.{bytes_eq}
use Rattle.std.proofs.Common.{ap, subst, ◌∙◌, arith}
use Rattle.std.proofs.lemmas.List.{length-map}
use Rattle.row_cells.specs.declared.schemas.Schema.{Schema}
use Rattle.row_cells.specs.declared.rows.Row.{Row}
use Rattle.column_block.specs.declared.kinds.Values.{Values}
use Rattle.index_segment.specs.Directory.{Run, run_of, with_key, runs_of, row_keys, keys_of, sizes_of}
use Rattle.index_segment.specs.Held.{Packs}
use Rattle.index_segment.specs.Spelling.{AreColumns, IsFront, IsFrontOf, IsSegmentOf, counted, counts_of, times_of}
use Rattle.index_segment.proofs.Packable.{rows_short}

with_short : (key : List ℕ) (n : ℕ) (rs : List Run) → length rs ≤ n → length (with_key key rs) ≤ n + 1
with_short key n [] short = omega arith
with_short key n (run ∷ rs) short = go (bytes_eq key run.key)
  where
    go : (b : Bool) → length (cond {A = List Run} b (run_of run.key (run.size + 1) ∷ rs) (run_of key 1 ∷ run ∷ rs)) ≤ n + 1
    go true = omega (arith, short)
    go false = omega (arith, short)

runs_short : (keys : List (List ℕ)) → length (runs_of keys) ≤ length keys
runs_short [] = omega arith
runs_short (key ∷ keys) = omega (arith, with_short key (length keys) (runs_of keys) (runs_short keys))

-- there are as few series as rows
pub keys_short : (rows : List Row) → length (keys_of rows) ≤ length rows
unfolding keys_of
keys_short rows = omega (arith, runs_short (row_keys rows), length-map (runs_of (row_keys rows)) (λ run. run.key), length-map rows (λ row. row.key))

module _ (schema : Schema) (rows : List Row) (keys : List (List ℕ)) (starts : List ℕ) (sizes times counts : List ℤ) (columns : List Values) (p : Packs schema rows keys starts sizes times counts columns) where
  pub times_long : length times ≡ length rows
  times_long = ap length p.times_are ∙ length-map rows (λ row. row.time)

  pub times_few : length times < 2 ^ 32
  times_few = omega (arith, times_long, rows_short schema rows p.rows_are)

  pub keys_few : length keys < 2 ^ 32
  keys_few = omega (arith, ap length p.keys_are, keys_short rows, rows_short schema rows p.rows_are)

  pub front_is : (front : List ℕ) → IsFrontOf (length times) keys sizes times counts front → IsFront rows front
  front_is front is =
      subst (λ n. IsFrontOf n (keys_of rows) (counted (sizes_of rows)) (times_of rows) (counts_of rows) front) times_long
      (subst (λ k. IsFrontOf (length times) k (counted (sizes_of rows)) (times_of rows) (counts_of rows) front) p.keys_are
      (subst (λ s. IsFrontOf (length times) keys s (times_of rows) (counts_of rows) front) p.sizes_are
      (subst (λ t. IsFrontOf (length times) keys sizes t (counts_of rows) front) p.times_are
      (subst (λ c. IsFrontOf (length times) keys sizes times c front) p.counts_are is))))

  pub written : (bytes front back : List ℕ) → IsFrontOf (length times) keys sizes times counts front → AreColumns columns back → bytes ≡ front ++ back → IsSegmentOf schema rows bytes
  written bytes front back front_of back_of joined = record {
    rows_are = p.rows_are;
    spelled = record { front = front; back = back; front_is = front_is front front_of; back_is = subst (λ c. AreColumns c back) p.columns_are back_of; joined = joined };
  }
