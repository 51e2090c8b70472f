-- Rows beside the fields of a schema, in whichever form.
use Rattle.std.specs.Prelude.{Bool}
use Rattle.row_cells.specs.declared.rows.Row.{Row}
use Rattle.row_cells.specs.declared.schemas.Schema.{Schema}
use Rattle.row_cells.specs.Fitting.{Fits}

-- the schema of rows with the same fields that are folded or not, and keep the rise of folded counters or not
abbrev pub in_form : Bool → Bool → Schema → Schema
in_form folded rises schema = record schema { folded = folded; rises = rises }

-- a row fits the fields of a schema, as a document or as a fold, with rises or without
pub record FitsFields (schema : Schema) (row : Row) : Type 0 where
  pub is_folded : Bool
  pub is_risen : Bool
  pub fits : Fits (in_form is_folded is_risen schema) row
