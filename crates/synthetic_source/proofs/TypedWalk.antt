-- What a walk of a document gives for its time and its cells.
use Rattle.std.proofs.Common.{◌≡◌, ℤ, List, Bool, Option, Some, None, refl, sym, subst}
use Rattle.std.specs.Prelude.{IsSome}
use Rattle.row_cells.specs.Fitting.{FieldsAscend}
use Rattle.row_cells.specs.declared.schemas.Field.{Field}
use Rattle.row_cells.specs.declared.schemas.Schema.{Schema}
use Rattle.serde_json.specs.Data.{Data}
use Rattle.json_walk.specs.Listed.{listed}
use Rattle.ts_mapping.specs.Schemas.{IsTemplateSchema}
use Rattle.synthetic_source.specs.Faults.{stops_of, time_of}
use Rattle.synthetic_source.specs.Gathered.{AreTimed}
use Rattle.synthetic_source.specs.Outcomes.{IsOutcome, IsSettled}
use Rattle.synthetic_source.specs.Walked.{Held, after, nothing_held}
use Rattle.synthetic_source.specs.declared.typing.Outcome.{Outcome}
use Rattle.synthetic_source.proofs.OneWalk.{settled_outcome, walked_slots}
use Rattle.synthetic_source.proofs.Timed.{walk_timed}

module _ (schema : Schema) (strict : Bool) (d : Data) (fields : List Field) (w : Held) (is : IsTemplateSchema schema) (same : fields ≡ schema.fields)
    (walked : w ≡ after strict fields (nothing_held fields) (listed (stops_of fields) None d)) where
  ascend : FieldsAscend fields
  ascend = subst FieldsAscend (sym same) is.mapped.ascending

  doc_timed : (t : ℤ) → time_of d ≡ Some t → AreTimed fields w.slots
  doc_timed t timed = walk_timed schema d fields w.slots t is same (walked_slots strict d fields w ascend walked) timed

  pub cells_timed : IsSome (time_of d) → AreTimed fields w.slots
  cells_timed some = go (time_of d) refl some
    where
      go : (o : Option ℤ) → time_of d ≡ o → IsSome o → AreTimed fields w.slots
      go None none is = cc
      go (Some t) timed is = doc_timed t timed

  pub doc_outcome : (o : Outcome) → IsSettled fields w o → IsOutcome schema strict d o
  doc_outcome o settled = settled_outcome schema strict d fields w o is.mapped.ascending same walked settled
