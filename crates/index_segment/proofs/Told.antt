-- The bytes of a segment tell its rows.
use Rattle.std.specs.Prelude.{◌≡◌, ℕ, ℤ, ◌^◌, ◌<◌, List, [], ◌∷◌, ◌++◌, length}
use Rattle.std.specs.Int.{w32, to_be_bytes, from_be_bytes}
use Rattle.std.specs.List.{flat_map}
use Rattle.std.proofs.Common.{refl, ap, sym, subst, ◌∙◌, arith, append_assoc}
use Rattle.std.proofs.lemmas.Nat.{from_be_bytes-to_be_bytes_4}
use Rattle.row_cells.specs.Each.{Each}
use Rattle.row_cells.specs.declared.schemas.Schema.{Schema}
use Rattle.row_cells.specs.declared.rows.Row.{Row}
use Rattle.row_cells.specs.Dimensions.{IsKey, text_bytes}
use Rattle.row_cells.specs.KeyLaws.{same_back, same_front, text_bytes_injective}
use Rattle.row_cells.specs.Mapped.{IsMapped}
use Rattle.column_block.specs.declared.kinds.ColumnKind.{ColumnKind}
use Rattle.column_block.specs.declared.kinds.Values.{Values}
use Rattle.packed_lists.specs.Laws.Fronts.{same-nums}
use Rattle.column_block.specs.Rules.{IsColumnOf}
use Rattle.column_block.specs.Spelling.{Spells}
use Rattle.index_segment.specs.Columns.{columns_of}
use Rattle.index_segment.specs.Directory.{keys_of, sizes_of}
use Rattle.index_segment.specs.Forms.{forms_of}
use Rattle.index_segment.specs.Held.{rows_held}
use Rattle.index_segment.specs.Parts.{AreColumnsOf, kinds_of}
use Rattle.index_segment.specs.Spelling.{AreColumns, IsSegmentOf, counted, counts_of, mark, times_of}
use Rattle.index_segment.proofs.HeldRows.{held_rows}
use Rattle.index_segment.proofs.Laid.{layout}
use Rattle.index_segment.proofs.Lists.{both}

-- a number of 32 bits, and what follows it
number_told : (n m : ℕ) (x y : List ℕ) → n < 2 ^ 32 → m < 2 ^ 32 → to_be_bytes w32 n ++ x ≡ to_be_bytes w32 m ++ y → (n ≡ m) × (x ≡ y)
number_told n m x y few_n few_m same =
    let front = same_front (to_be_bytes w32 n) x (to_be_bytes w32 m) y refl same in (
      sym (from_be_bytes-to_be_bytes_4 n few_n) ∙ (ap (from_be_bytes w32) front ∙ from_be_bytes-to_be_bytes_4 m few_m),
      same_back (to_be_bytes w32 n) x (to_be_bytes w32 m) y refl same,
    )

-- as many keys, and what follows them
keys_told : (ks ls : List (List ℕ)) (x y : List ℕ) → Each IsKey ks → Each IsKey ls → length ks ≡ length ls → flat_map text_bytes ks ++ x ≡ flat_map text_bytes ls ++ y → (ks ≡ ls) × (x ≡ y)
keys_told [] [] x y are others long same = (refl, same)
keys_told [] (l ∷ ls) x y are others long same = absurd (omega (arith, long))
keys_told (k ∷ ks) [] x y are others long same = absurd (omega (arith, long))
keys_told (k ∷ ks) (l ∷ ls) x y are others long same =
    let split = sym (append_assoc (text_bytes k) (flat_map text_bytes ks) x) ∙ (same ∙ append_assoc (text_bytes l) (flat_map text_bytes ls) y) in
    let here = text_bytes_injective k l (flat_map text_bytes ks ++ x) (flat_map text_bytes ls ++ y) (omega (arith, are.0.short)) (omega (arith, others.0.short)) split in
    let more = keys_told ks ls x y are.1 others.1 (omega (arith, long)) here.rest_is in
    (both here.text more.0, more.1)

module _ (column : (kind : ColumnKind) (rows : ℕ) (vs ws : Values) (a b x y : List ℕ) → IsColumnOf kind rows vs → IsColumnOf kind rows ws → Spells vs a → Spells ws b → a ++ x ≡ b ++ y → (vs ≡ ws) × (a ≡ b) × (x ≡ y)) where
  columns_told : (kinds : List ColumnKind) (n : ℕ) (cs ds : List Values) (a b : List ℕ) → AreColumnsOf kinds n cs → AreColumnsOf kinds n ds → AreColumns cs a → AreColumns ds b → a ≡ b → cs ≡ ds
  columns_told [] n [] [] a b of_cs of_ds are others same = refl
  columns_told [] n [] (d ∷ ds) a b of_cs of_ds are others same = absurd of_ds
  columns_told [] n (c ∷ cs) ds a b of_cs of_ds are others same = absurd of_cs
  columns_told (kind ∷ kinds) n [] ds a b of_cs of_ds are others same = absurd of_cs
  columns_told (kind ∷ kinds) n (c ∷ cs) [] a b of_cs of_ds are others same = absurd of_ds
  columns_told (kind ∷ kinds) n (c ∷ cs) (d ∷ ds) a b of_cs of_ds (f, r, x, xs, p) (g, s, y, ys, q) same =
      let one = column kind n c d f g r s of_cs.0 of_ds.0 x y (sym p ∙ (same ∙ q)) in
      both one.0 (columns_told kinds n cs ds r s of_cs.1 of_ds.1 xs ys one.2)

  -- bytes have the rows of one segment
  pub one_rows : (schema : Schema) (r s : List Row) (bytes : List ℕ) → IsMapped schema → IsSegmentOf schema r bytes → IsSegmentOf schema s bytes → r ≡ s
  one_rows schema r s bytes mapped is other =
      let l = layout schema r bytes mapped is in
      let m = layout schema s bytes mapped other in
      let counts = number_told (length r) (length s) _ _ l.rows_few m.rows_few (same_back mark _ mark _ refl (sym l.joined ∙ m.joined)) in
      let series = number_told (length (keys_of r)) (length (keys_of s)) _ _ l.series_few m.series_few counts.1 in
      let keys = keys_told (keys_of r) (keys_of s) _ _ l.keys m.keys series.0 series.1 in
      let sizes = same-nums (counted (sizes_of r)) (counted (sizes_of s)) l.size_bytes m.size_bytes _ _ (l.sizes_length ∙ (series.0 ∙ sym m.sizes_length)) l.sizes_are m.sizes_are keys.1 in
      let times = same-nums (times_of r) (times_of s) l.time_bytes m.time_bytes _ _ (l.times_length ∙ (counts.0 ∙ sym m.times_length)) l.times_are m.times_are sizes.2 in
      let documents = same-nums (counts_of r) (counts_of s) l.count_bytes m.count_bytes l.back m.back (l.counts_length ∙ (counts.0 ∙ sym m.counts_length)) l.counts_are m.counts_are times.2 in
      let columns = columns_told (kinds_of (forms_of schema)) (length s) (columns_of schema r) (columns_of schema s) l.back m.back (subst (λ n. AreColumnsOf (kinds_of (forms_of schema)) n (columns_of schema r)) counts.0 l.columns_of_kinds) m.columns_of_kinds l.columns_are m.columns_are documents.2 in
      sym (held_rows schema r mapped is.rows_are)
      ∙ (alike schema (keys_of r) (keys_of s) (counted (sizes_of r)) (counted (sizes_of s)) (times_of r) (times_of s) (counts_of r) (counts_of s) (columns_of schema r) (columns_of schema s) keys.0 sizes.0 times.0 documents.0 columns
      ∙ held_rows schema s mapped other.rows_are)
    where
      alike : (schema : Schema) (a b : List (List ℕ)) (c d e f g h : List ℤ) (i j : List Values) → a ≡ b → c ≡ d → e ≡ f → g ≡ h → i ≡ j → rows_held schema a c e g i ≡ rows_held schema b d f h j
      alike schema a b c d e f g h i j p q r s t = cc
