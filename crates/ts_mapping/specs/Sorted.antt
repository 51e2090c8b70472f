-- Fields that a map holds by their paths; for private clauses.
use Rattle.std.specs.Prelude.{ℕ, List, Option, map, option_map}
use Rattle.row_cells.specs.declared.schemas.Field.{Field}
use Rattle.ts_mapping.specs.declared.fields.Typed.{Typed}

abbrev pub field_in : List ℕ × Typed → Field
field_in entry = record { path = entry.0; kind = entry.1.kind; role = entry.1.role }

abbrev pub fields_in : List (List ℕ × Typed) → List Field
fields_in = map field_in

abbrev pub field_if : List ℕ → Option Typed → Option Field
field_if path typed = option_map (λ t. field_in (path, t)) typed
