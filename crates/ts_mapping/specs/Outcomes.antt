-- What a body was read as; for private clauses.
use Rattle.std.specs.Prelude.{◌≡◌, ℕ, List, Some, None}
use Rattle.serde_json.specs.Data.{Data}
use Rattle.ts_mapping.specs.Faults.{first_of, leaves_of, refusal_of}
use Rattle.ts_mapping.specs.Looks.{early_looks}
use Rattle.ts_mapping.specs.Least.{least}
use Rattle.ts_mapping.specs.Schemas.{IsTemplateSchema}
use Rattle.ts_mapping.specs.Seen.{properties_seen, settings_seen}
use Rattle.ts_mapping.specs.Settings.{settings_of}
use Rattle.ts_mapping.specs.Shapes.{shape_faults}
use Rattle.ts_mapping.specs.Templates.{template_of}
use Rattle.ts_mapping.specs.declared.gathering.Gathered.{Gathered}
use Rattle.ts_mapping.specs.declared.gathering.Gathered.TheVariants.{Sent, Refused}
use Rattle.ts_mapping.specs.declared.making.Outcome.{Outcome}
use Rattle.ts_mapping.specs.declared.making.Outcome.TheVariants.{Made, Faulty}

-- the template of the body, which no look refuses, or the fault that is found first
abbrev pub IsReadAs : List ℕ → Data → Outcome → Type 0
IsReadAs name body (Made t) = (refusal_of body ≡ None) × (t ≡ template_of name body) × IsTemplateSchema t.schema
IsReadAs name body (Faulty fault) = refusal_of body ≡ Some fault

-- what a body sent, which the early looks don't refuse, or the fault that they find
abbrev pub IsSentAs : Data → Gathered → Type 0
IsSentAs body (Sent settings leaves) =
    (settings_seen settings.items ≡ settings_of body) × (properties_seen leaves.items ≡ leaves_of body)
    × (least (shape_faults body) ≡ None) × (first_of (early_looks body) ≡ None)
IsSentAs body (Refused fault) = refusal_of body ≡ Some fault
