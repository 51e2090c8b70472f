-- A segment of the parts that rows have.
use Rattle.std.specs.Prelude.{◌≡◌, ℕ, ℤ, List}
use Rattle.std.proofs.Common.{ap, sym, subst, ◌∙◌}
use Rattle.row_cells.specs.declared.schemas.Schema.{Schema}
use Rattle.row_cells.specs.declared.rows.Row.{Row}
use Rattle.row_cells.specs.Mapped.{IsMapped}
use Rattle.column_block.specs.declared.kinds.Values.{Values}
use Rattle.index_segment.specs.declared.forms.Form.{Form}
use Rattle.index_segment.specs.Columns.{columns_from, columns_of}
use Rattle.index_segment.specs.Directory.{keys_of, sizes_of, starts_from}
use Rattle.index_segment.specs.Forms.{forms_of}
use Rattle.index_segment.specs.Held.{Held, Packs, rows_held}
use Rattle.row_cells.specs.KeyedRows.{AreRowsOf}
use Rattle.index_segment.specs.Spelling.{counted, counts_of, times_of}
use Rattle.index_segment.proofs.HeldRows.{held_rows}

pub columns_are : (schema : Schema) (rows : List Row) (forms : List Form) (columns : List Values) → forms ≡ forms_of schema → columns ≡ columns_from 0 forms rows → columns ≡ columns_of schema rows
unfolding columns_of
columns_are schema rows forms columns forms_is is = is ∙ ap (λ fs. columns_from 0 fs rows) forms_is

module _ (schema s : Schema) (rows : List Row) (keys : List (List ℕ)) (starts : List ℕ) (sizes times counts : List ℤ) (columns : List Values) (mapped : IsMapped schema) (are : AreRowsOf schema rows) (s_is : s ≡ schema) (keys_is : keys ≡ keys_of rows) (starts_is : starts ≡ starts_from 0 (sizes_of rows)) (sizes_is : sizes ≡ counted (sizes_of rows)) (times_is : times ≡ times_of rows) (counts_is : counts ≡ counts_of rows) (columns_is : columns ≡ columns_of schema rows) where
  pub held_is : rows_held s keys sizes times counts columns ≡ rows
  held_is =
      let same : rows_held s keys sizes times counts columns ≡ rows_held schema (keys_of rows) (counted (sizes_of rows)) (times_of rows) (counts_of rows) (columns_of schema rows) = cc in
      same ∙ held_rows schema rows mapped are

  pub packs : Packs s (rows_held s keys sizes times counts columns) keys starts sizes times counts columns
  packs = subst (λ r. Packs s r keys starts sizes times counts columns) (sym held_is) (record {
    mapped = subst IsMapped (sym s_is) mapped;
    rows_are = subst (λ t. AreRowsOf t rows) (sym s_is) are;
    keys_are = keys_is;
    starts_are = starts_is;
    sizes_are = sizes_is;
    times_are = times_is;
    counts_are = counts_is;
    columns_are = columns_is ∙ ap (λ t. columns_of t rows) (sym s_is);
  })

abbrev pub held_with : Schema → List Row → Held
held_with schema rows = record { schema = schema; rows = rows }

pub segment_eq : (s t : Schema) (a b : List Row) → s ≡ t → a ≡ b → held_with s a ≡ held_with t b
segment_eq s t a b p q = ap (λ x. held_with x a) p ∙ ap (held_with t) q
