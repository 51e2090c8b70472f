-- Rows of an index that are changed where they stand, for private clauses.
use Rattle.std.specs.Prelude.{◌≡◌, ℕ, false, List, Option, None, Some}
use Rattle.row_cells.specs.declared.rows.Row.{Row}
use Rattle.row_cells.specs.KeyedRows.{IsRowOf}
use Rattle.tsds_index.specs.Spread.{rows_of}
use Rattle.tsds_index.specs.declared.refusal.PutError.{PutError}
use Rattle.stream_catalog.specs.declared.held_rows.HeldRows.{HeldRows}
use Rattle.stream_catalog.specs.Beside.{rows_name}
use Rattle.stream_catalog.specs.Calls.{rows_refusal}
use Rattle.stream_catalog.specs.Lists.{found_by, updated, with_found}

-- rows are changed so, and stand under the same name as before, of the same schema
pub record IsChange (h : List Row → List Row) (old new : HeldRows) : Type 0 where
  pub name : new.name ≡ old.name
  pub schema : new.index.schema ≡ old.index.schema
  pub rows : rows_of new.index ≡ h (rows_of old.index)

-- the rows of a name are changed so, and all else is as it was
pub record AreChanged (n : List ℕ) (h : List Row → List Row) (old new : List HeldRows) : Type 0 where
  pub rows : HeldRows
  pub place : new ≡ updated rows_name n (λ x. rows) old
  pub change : (x : HeldRows) → found_by rows_name n old ≡ Some x → IsChange h x rows

-- ---- a row that is put

-- there are rows, not folded, that a row is of the schema of
abbrev pub IsOfRaw : Row → Option HeldRows → Type 0
IsOfRaw row None = ⊥
IsOfRaw row (Some x) = IsRowOf x.index.schema row × (x.index.schema.folded ≡ false)

-- what refuses a row among the rows of a name
abbrev pub held_refusal : List HeldRows → List ℕ → Row → Option PutError
held_refusal xs n row = with_found (found_by rows_name n xs) None (λ x. rows_refusal (rows_of x.index) row)
