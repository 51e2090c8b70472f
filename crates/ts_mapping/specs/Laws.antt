-- What holds of every body, for the public laws.
use Rattle.std.specs.Prelude.{◌≡◌, ℕ, List, None, Some}
use Rattle.fold_law.specs.declared.measures.Parts.{Parts}
use Rattle.row_cells.specs.declared.scalars.Scalar.{Scalar}
use Rattle.row_cells.specs.declared.schemas.FieldType.{FieldType}
use Rattle.row_cells.specs.Fitting.{IsAggregate, IsValueOf}
use Rattle.serde_json.specs.Data.{Data}
use Rattle.ts_mapping.specs.Facts.{IsTemplate}
use Rattle.ts_mapping.specs.Faults.{refusal_of}
use Rattle.ts_mapping.specs.Least.{IsLeast, least}
use Rattle.ts_mapping.specs.Readings.{aggregate_of, reading_of}
use Rattle.ts_mapping.specs.Templates.{template_of}
use Rattle.ts_mapping.specs.declared.templates.Template.{Template}

-- the template of a body that no look refuses is a template as bodies give it
abbrev pub BodiesAreTemplates : Type 0
BodiesAreTemplates = (name : List ℕ) (body : Data) → refusal_of body ≡ None → IsTemplate (template_of name body)

-- and each such template is that of some body
abbrev pub TemplatesHaveBodies : Type 0
TemplatesHaveBodies = (t : Template) → IsTemplate t → (body : Data) × (refusal_of body ≡ None) × (template_of t.name body ≡ t)

-- the least of the paths at fault is one of them, and behind none of them
abbrev pub LeastIsLeast : Type 0
LeastIsLeast = (ps : List (List ℕ)) (p : List ℕ) → least ps ≡ Some p → IsLeast ps p

-- a leaf's reading at a field of a type is a value of the type
abbrev pub ReadingsFit : Type 0
ReadingsFit = (kind : FieldType) (leaf : Data) (v : Scalar) → reading_of kind leaf ≡ Some v → IsValueOf kind v

-- an aggregate's parts have 64 bits, and count a value or more
abbrev pub PartsOfLeavesFit : Type 0
PartsOfLeavesFit = (leaf : Data) (p : Parts) → aggregate_of leaf ≡ Some p → IsAggregate p
