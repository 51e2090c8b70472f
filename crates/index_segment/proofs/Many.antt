-- Any number of segments merged one after the other.
use Rattle.std.specs.Prelude.{◌≡◌, ◌+◌, ◌≤◌, ◌++◌, List, ◌∷◌, map}
use Rattle.std.specs.List.{flat_map}
use Rattle.std.specs.declared.cmp.Ordering.TheVariants.{Equal}
use Rattle.std.proofs.Common.{ap, sym, subst, ◌∙◌, arith, append_assoc}
use Rattle.row_cells.specs.declared.schemas.Schema.{Schema}
use Rattle.row_cells.specs.declared.rows.Row.{Row}
use Rattle.row_cells.specs.Each.{Each}
use Rattle.row_cells.specs.EachLaws.{Each-both}
use Rattle.row_cells.specs.Limits.{most_documents}
use Rattle.row_cells.specs.OrderLaws.{documents-in_row_order, in_row_order-ascends, in_row_order-each, in_row_order-same}
use Rattle.row_cells.specs.PlaceLaws.{documents-append, each_append, in_row_order-append_left}
use Rattle.row_cells.specs.RowLists.{documents, in_row_order, AreApart}
use Rattle.index_segment.specs.Held.{Held}
use Rattle.index_segment.specs.Merging.{AreAllApart}
use Rattle.row_cells.specs.Order.{row_cmp}

abbrev pub rows_in : List Held → List Row
rows_in parts = flat_map (λ part. part.rows) parts

-- some segments are merged to one of these rows, and the others are left
pub record AreLeft (schema : Schema) (all : List Held) (merged : Held) (left : List Held) : Type 0 where
  pub schema_is : merged.schema ≡ schema
  pub schemas : Each (λ s. s.schema ≡ schema) left
  pub apart : AreAllApart (map (λ s. s.rows) left)
  pub beside : Each (AreApart merged.rows) (map (λ s. s.rows) left)
  pub few : documents merged.rows + documents (rows_in left) ≤ most_documents
  pub sorted : in_row_order merged.rows ≡ merged.rows
  pub whole : in_row_order (merged.rows ++ rows_in left) ≡ in_row_order (rows_in all)

both_apart : (a b rows : List Row) → AreApart a rows → AreApart b rows → AreApart (in_row_order (a ++ b)) rows
both_apart a b rows first second =
    let P : Row → Type 0 = λ r. Each (λ s. row_cmp r s ≡ Equal → ⊥) rows in
    in_row_order-each P (a ++ b) (each_append P a b first second)

-- one more is merged
pub one_on : (schema : Schema) (all : List Held) (merged next part : Held) (left rest : List Held) → left ≡ part ∷ rest → next ≡ record { schema = merged.schema; rows = in_row_order (merged.rows ++ part.rows) } → AreLeft schema all merged left → AreLeft schema all next rest
one_on schema all merged next part left rest left_is next_is are = rw next_is (go (subst (AreLeft schema all merged) left_is are))
  where
    go : AreLeft schema all merged (part ∷ rest) → AreLeft schema all (record { schema = merged.schema; rows = in_row_order (merged.rows ++ part.rows) }) rest
    go l = record {
      schema_is = l.schema_is;
      schemas = l.schemas.1;
      apart = l.apart.1;
      beside = Each-both (AreApart merged.rows) (AreApart part.rows) (AreApart (in_row_order (merged.rows ++ part.rows))) (λ rows first second. both_apart merged.rows part.rows rows first second) (map (λ s. s.rows) rest) l.beside.1 l.apart.0;
      few = omega (arith, l.few, documents-in_row_order (merged.rows ++ part.rows), documents-append merged.rows part.rows, documents-append part.rows (rows_in rest));
      sorted = in_row_order-same (in_row_order (merged.rows ++ part.rows)) (in_row_order-ascends (merged.rows ++ part.rows));
      whole = in_row_order-append_left (merged.rows ++ part.rows) (rows_in rest) ∙ (ap in_row_order (append_assoc merged.rows part.rows (rows_in rest)) ∙ l.whole);
    }

-- the next one fits beside what is merged
pub record Next (merged part : Held) : Type 0 where
  pub schema_is : part.schema ≡ merged.schema
  pub apart : AreApart merged.rows part.rows
  pub few : documents merged.rows + documents part.rows ≤ most_documents

pub next_fits : (schema : Schema) (all : List Held) (merged part : Held) (left rest : List Held) → left ≡ part ∷ rest → AreLeft schema all merged left → Next merged part
next_fits schema all merged part left rest left_is are = go (subst (AreLeft schema all merged) left_is are)
  where
    go : AreLeft schema all merged (part ∷ rest) → Next merged part
    go l = record {
      schema_is = l.schemas.0 ∙ sym l.schema_is;
      apart = l.beside.0;
      few = omega (arith, l.few, documents-append part.rows (rows_in rest));
    }
