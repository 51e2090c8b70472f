-- Where the rows of a series and of a range stand in a segment.
use Rattle.std.specs.Prelude.{◌≡◌, ℕ, ℤ, pos, suc, ◌≤ℤ◌, ◌<ℤ◌, ◌+◌, ◌^◌, ◌<◌, ◌≤◌, List, [], ◌∷◌, length, slice_index_or}
use Rattle.std.proofs.Common.{refl, ap, sym, subst, ◌∙◌, arith, get_or}
use Rattle.std.proofs.lemmas.List.{length-map}
use Rattle.row_cells.specs.declared.schemas.Schema.{Schema}
use Rattle.row_cells.specs.declared.rows.Row.{Row}
use Rattle.column_block.specs.declared.kinds.Values.{Values}
use Rattle.index_segment.specs.Directory.{row_keys, runs_of, keys_of, sizes_of}
use Rattle.row_cells.specs.declared.schemas.Field.{Field}
use Rattle.row_cells.specs.declared.rows.Cell.{Cell}
use Rattle.index_segment.specs.declared.forms.Form.{Form}
use Rattle.index_segment.specs.Forms.{form_of, forms_of}
use Rattle.row_cells.specs.Heads.{entry_at, heads_in, rest_of}
use Rattle.index_segment.specs.Held.{Packs}
use Rattle.index_segment.specs.Looks.{IsRange}
use Rattle.packed_lists.specs.Falling.{Fall}
use Rattle.index_segment.specs.Order.{Ascend, Stands}
use Rattle.index_segment.proofs.Packable.{rows_short}
use Rattle.index_segment.proofs.Scanned.{falling, range_within}
use Rattle.index_segment.proofs.Series.{ascend_at, keys_ascend, starts_long}
use Rattle.index_segment.proofs.Writing.{keys_short, times_long}

pub sizes_long : (rows : List Row) → length (sizes_of rows) ≡ length (keys_of rows)
unfolding sizes_of keys_of
sizes_long rows = length-map (runs_of (row_keys rows)) (λ run. run.size) ∙ sym (length-map (runs_of (row_keys rows)) (λ run. run.key))

module _ (schema : Schema) (rows : List Row) (keys : List (List ℕ)) (starts : List ℕ) (sizes times counts : List ℤ) (columns : List Values) (p : Packs schema rows keys starts sizes times counts columns) where
  pub ascending : Ascend keys
  ascending = subst Ascend (sym p.keys_are) (ascend_at (keys_of rows) (keys_ascend rows p.rows_are.in_order))

  starts_length : length starts ≡ length keys + 1
  starts_length = ap length p.starts_are ∙ (starts_long 0 (sizes_of rows) ∙ ap (λ n. n + 1) (sizes_long rows ∙ ap length (sym p.keys_are)))

  pub starts_few : length starts < 2 ^ 33
  starts_few = omega (arith, starts_length, ap length p.keys_are, keys_short rows, rows_short schema rows p.rows_are)

  pub times_fall : (key : List ℕ) (a b : ℕ) → Stands (row_keys rows) key a b → Fall times a b
  times_fall key a b s = subst (λ ts. Fall ts a b) (sym p.times_are) (falling rows key a b p.rows_are.in_order s)

  pub last_within : (key : List ℕ) (a b : ℕ) → Stands (row_keys rows) key a b → b ≤ length times
  last_within key a b s = omega (arith, s.within, length-map rows (λ row. row.key), times_long schema rows keys starts sizes times counts columns p)

  pub range_is : (key : List ℕ) (from to : ℤ) (a b i j : ℕ) → Stands (row_keys rows) key a b → a ≤ i → i ≤ j → j ≤ b → ((k : ℕ) → a ≤ k → k < i → to ≤ℤ slice_index_or times k (pos 0)) → ((k : ℕ) → i ≤ k → k < b → slice_index_or times k (pos 0) <ℤ to) → ((k : ℕ) → i ≤ k → k < j → from ≤ℤ slice_index_or times k (pos 0)) → ((k : ℕ) → j ≤ k → k < b → slice_index_or times k (pos 0) <ℤ from) → IsRange key from to rows i j
  range_is key from to a b i j s a_i i_j j_b late in_late early in_early =
      let t = p.times_are in
      record {
        ordered = i_j;
        inside = omega (arith, j_b, s.within, length-map rows (λ row. row.key));
        same = range_within rows key from to a b i j s a_i i_j j_b
            (λ k x y. subst (λ ts. to ≤ℤ get_or ts k (pos 0)) t (late k x y))
            (λ k x y. subst (λ ts. get_or ts k (pos 0) <ℤ to) t (in_late k x y))
            (λ k x y. subst (λ ts. from ≤ℤ get_or ts k (pos 0)) t (early k x y))
            (λ k x y. subst (λ ts. get_or ts k (pos 0) <ℤ from) t (in_early k x y));
      }

heads_long : (fields : List Field) (key : List ℕ) → length (heads_in fields key) ≡ length fields
heads_long [] key = refl
heads_long (f ∷ fields) key = ap suc (heads_long fields (rest_of key (entry_at f.path key)))

pub heads_same : (schema : Schema) (key : List ℕ) (heads : List Cell) (forms : List Form) → heads ≡ heads_in schema.fields key → forms ≡ forms_of schema → length heads ≡ length forms
heads_same schema key heads forms heads_is forms_is = ap length heads_is ∙ (heads_long schema.fields key ∙ (sym (length-map schema.fields (λ f. form_of schema.folded schema.rises f.kind f.role)) ∙ ap length (sym forms_is)))
