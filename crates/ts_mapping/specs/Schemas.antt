-- The schemas that templates give.
use Rattle.std.specs.Prelude.{◌≡◌, ◌↔◌, ◌≤◌, ◌<◌, true, false, List, [], ◌∷◌, length}
use Rattle.row_cells.specs.declared.schemas.FieldType.TheVariants.{Date}
use Rattle.row_cells.specs.declared.schemas.Role.TheVariants.{Time}
use Rattle.row_cells.specs.declared.schemas.Field.{Field}
use Rattle.row_cells.specs.declared.schemas.Schema.{Schema}
use Rattle.row_cells.specs.Joining.{IsIn}
use Rattle.row_cells.specs.Mapped.{IsMapped, PlacesAscend}
use Rattle.ts_mapping.specs.Limits.{most_fields}
use Rattle.ts_mapping.specs.Paths.{is_below, is_field_path, timestamp}
use Rattle.ts_mapping.specs.Roles.{may_have}

-- a field with a path that fields may have and a role that its type may have; the time is at `@timestamp` alone
pub record IsTemplateField (f : Field) : Type 0 where
  pub path : is_field_path f.path ≡ true
  pub role : may_have f.kind f.role ≡ true
  pub time : (f.role ≡ Time) ↔ (f.path ≡ timestamp)

abbrev pub AreTemplateFields : List Field → Type 0
AreTemplateFields [] = Unit {0}
AreTemplateFields (f ∷ fs) = IsTemplateField f × AreTemplateFields fs

-- no field lies below another
abbrev pub AreApart : List Field → Type 0
AreApart fs = (f g : Field) → IsIn f fs → IsIn g fs → is_below f.path g.path ≡ false

-- the field of the time
abbrev pub time_field : Field
time_field = record { path = timestamp; kind = Date; role = Time }

-- A schema of a template, whatever `folded` and `rises`: mapped, with the time among its few fields, and one or more
-- routing fields, whose places ascend.
pub record IsTemplateSchema (schema : Schema) : Type 0 where
  pub mapped : IsMapped schema
  pub fields : AreTemplateFields schema.fields
  pub apart : AreApart schema.fields
  pub timed : IsIn time_field schema.fields
  pub few : length schema.fields ≤ most_fields
  pub routing_ascends : PlacesAscend (length schema.fields) schema.routing
  pub routed : 0 < length schema.routing
