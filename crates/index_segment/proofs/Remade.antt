-- Rows from the parts that they have.
use Rattle.std.specs.Prelude.{◌≡◌, ℕ, ℤ, pos, zero, suc, ◌+◌, ◌-◌, ◌≤◌, Some, List, [], ◌∷◌, ◌++◌, map, length, take, replicate, slice_range}
use Rattle.std.specs.List.{slice_get}
use Rattle.std.proofs.Common.{refl, ap, sym, subst, ◌∙◌, arith, get_or, length-append}
use Rattle.std.proofs.lemmas.List.{length-map, take_all}
use lib.ListN.{length-replicate}
use Rattle.row_cells.specs.Limits.{most_documents}
use Rattle.row_cells.specs.declared.schemas.Schema.{Schema}
use Rattle.row_cells.specs.declared.rows.Cell.{Cell}
use Rattle.row_cells.specs.declared.rows.Row.{Row}
use Rattle.row_cells.specs.Mapped.{IsMapped}
use Rattle.column_block.specs.Ranges.{rows_between}
use Rattle.column_block.specs.declared.kinds.Values.{Values}
use Rattle.index_segment.specs.declared.forms.Form.{Form}
use Rattle.index_segment.specs.Directory.{keys_of, row_keys, sizes_of, spread, total}
use Rattle.index_segment.specs.Forms.{forms_of}
use Rattle.row_cells.specs.Heads.{heads_in}
use Rattle.index_segment.specs.Held.{series_rows}
use Rattle.index_segment.specs.Order.{Stands}
use Rattle.index_segment.specs.Parts.{HaveParts}
use Rattle.row_cells.specs.KeyedRows.{AreRowsOf}
use Rattle.index_segment.specs.Spelling.{counted}
use Rattle.index_segment.proofs.HeldRows.{spread_rows}
use Rattle.index_segment.proofs.Packable.{rows_short}
use Rattle.index_segment.proofs.Places.{sizes_long}
use Rattle.index_segment.proofs.Scanned.{keys_of_series, series_made}
use Rattle.index_segment.proofs.Series.{keys_ascend, stands}
use Rattle.std.proofs.Math.Seq.{take-add}

pub total_next : (s : ℕ) (ns : List ℕ) → total (suc s) ns ≡ total s ns + get_or ns s 0
total_next zero [] = refl
total_next zero (n ∷ ns) = omega arith
total_next (suc s) [] = refl
total_next (suc s) (n ∷ ns) = ap (λ m. n + m) (total_next s ns) ∙ grouped n (total s ns) (get_or ns s 0)
  where
    grouped : (a b c : ℕ) → a + (b + c) ≡ (a + b) + c
    grouped a b c = omega arith

counted_at : (s : ℕ) (ns : List ℕ) → get_or (counted ns) s (pos 0) ≡ pos (get_or ns s 0)
counted_at zero [] = refl
counted_at zero (n ∷ ns) = refl
counted_at (suc s) [] = refl
counted_at (suc s) (n ∷ ns) = counted_at s ns

pub total_all : (ks : List (List ℕ)) (ns : List ℕ) → length ns ≡ length ks → total (length ks) ns ≡ length (spread ks ns)
total_all [] ns long = refl
total_all (k ∷ ks) [] long = absurd (omega (arith, long))
total_all (k ∷ ks) (n ∷ ns) long = ap (λ m. n + m) (total_all ks ns (omega (arith, long))) ∙ sym (length-append (replicate n k) (spread ks ns) ∙ ap (λ m. m + length (spread ks ns)) (length-replicate n k))

pub take_on : {A : Type 0} (a b : ℕ) (xs : List A) → a ≤ b → take a xs ++ slice_range xs a b ≡ take b xs
take_on a b xs under = sym (take-add a (b - a) xs) ∙ ap (λ n. take n xs) (omega arith)

module _ (schema : Schema) (rows : List Row) (keys : List (List ℕ)) (sizes times counts : List ℤ) (columns : List Values) (mapped : IsMapped schema) (are : AreRowsOf schema rows) (p : HaveParts schema rows keys sizes times counts columns) where
  pub rows_within : length times ≤ most_documents
  rows_within = omega (arith, ap length p.times_are, length-map rows (λ row. row.time), rows_short schema rows are)

  pub sizes_within : length sizes ≡ length keys
  sizes_within = ap length p.sizes_are ∙ (length-map (sizes_of rows) (λ n. pos n) ∙ (sizes_long rows ∙ ap length (sym p.keys_are)))

  pub all_made : (series start : ℕ) (made : List Row) → series ≡ length keys → start ≡ total series (sizes_of rows) → made ≡ take start rows → made ≡ rows
  all_made series start made series_is start_is made_is =
      let whole : start ≡ length rows = start_is ∙ (ap (λ n. total n (sizes_of rows)) (series_is ∙ ap length p.keys_are) ∙ (total_all (keys_of rows) (sizes_of rows) (sizes_long rows) ∙ (ap length (spread_rows rows) ∙ length-map rows (λ row. row.key)))) in
      made_is ∙ (ap (λ n. take n rows) whole ∙ take_all (length rows) rows (omega arith))

  module _ (series start : ℕ) (key : List ℕ) (there : slice_get keys series ≡ Some key) (start_is : start ≡ total series (sizes_of rows)) where
    stand : Stands (row_keys rows) key (total series (sizes_of rows)) (total (suc series) (sizes_of rows))
    stand = subst (λ ks. Stands ks key (total series (sizes_of rows)) (total (suc series) (sizes_of rows))) (spread_rows rows) (stands (keys_of rows) (sizes_of rows) series key (keys_ascend rows are.in_order) (sizes_long rows) (ap (λ ks. slice_get ks series) (sym p.keys_are) ∙ there))

    pub ends : (end : ℕ) → end ≡ start + get_or (sizes_of rows) series 0 → end ≡ total (suc series) (sizes_of rows)
    ends end is = is ∙ (ap (λ n. n + get_or (sizes_of rows) series 0) start_is ∙ sym (total_next series (sizes_of rows)))

    pub size_at : get_or sizes series (pos 0) ≡ pos (get_or (sizes_of rows) series 0)
    size_at = ap (λ xs. get_or xs series (pos 0)) p.sizes_are ∙ counted_at series (sizes_of rows)

    pub end_within : start + get_or (sizes_of rows) series 0 ≤ length times
    end_within = omega (arith, ends (start + get_or (sizes_of rows) series 0) refl, stand.within, length-map rows (λ row. row.key), ap length p.times_are, length-map rows (λ row. row.time))

    pub ordered : (end : ℕ) → end ≡ total (suc series) (sizes_of rows) → start ≤ end
    ordered end is = omega (arith, start_is, is, stand.ordered)

    pub remade : (end : ℕ) (forms : List Form) (heads : List Cell) (cols : List Values) (ts cs : List ℤ) → end ≡ total (suc series) (sizes_of rows) → forms ≡ forms_of schema → heads ≡ heads_in schema.fields key → cols ≡ map (rows_between start end) columns → ts ≡ slice_range times start end → cs ≡ slice_range counts start end → series_rows key forms heads cols 0 ts cs ≡ slice_range rows start end
    remade end forms heads cols ts cs end_is forms_is heads_is cols_is ts_is cs_is =
        let s : Stands (row_keys rows) key start end = subst (λ n. Stands (row_keys rows) key n end) (sym start_is) (subst (λ n. Stands (row_keys rows) key (total series (sizes_of rows)) n) (sym end_is) stand) in
        series_made schema rows key start end forms heads cols ts cs mapped are.each (keys_of_series rows key start end s) forms_is heads_is
        (cols_is ∙ ap (map (rows_between start end)) p.columns_are) (ts_is ∙ ap (λ xs. slice_range xs start end) p.times_are) (cs_is ∙ ap (λ xs. slice_range xs start end) p.counts_are)
