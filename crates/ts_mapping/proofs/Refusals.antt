-- Which look refuses a body.
use Rattle.std.proofs.Common.{◌≡◌, ℕ, List, ◌∷◌, ◌++◌, Option, Some, None, refl, ap, ◌∙◌}
use Rattle.std.specs.Prelude.{option_and_then}
use Rattle.serde_json.specs.Data.{Data}
use Rattle.row_cells.specs.declared.schemas.Field.{Field}
use Rattle.json_walk.specs.Shapes.{texts_of}
use Rattle.ts_mapping.specs.Faults.{entries_of, fault_at, first_of, leaves_of, refusal_of}
use Rattle.ts_mapping.specs.Looks.{early_looks, field_looks, late_looks, routing_looks}
use Rattle.ts_mapping.specs.Fields.{fields_of}
use Rattle.ts_mapping.specs.Properties.{Property}
use Rattle.ts_mapping.specs.Settings.{Setting, settings_of, value_of}
use Rattle.ts_mapping.specs.Templates.{schema_of, schema_with, template_of}
use Rattle.ts_mapping.specs.declared.settings.Key.TheVariants.{RoutingPath}
use Rattle.ts_mapping.specs.Least.{least}
use Rattle.ts_mapping.specs.Shapes.{shape_faults}
use Rattle.ts_mapping.specs.declared.faults.Fault.{Fault}
use Rattle.ts_mapping.specs.declared.kinds.MapKind.TheVariants.{Shape}
use Rattle.ts_mapping.proofs.Nothing.{first_of_early, first_of_later}

pub shape_refuses : (body : Data) (path : List ℕ) → least (shape_faults body) ≡ Some path → refusal_of body ≡ Some (record { kind = Shape; path = path })
unfolding refusal_of
shape_refuses body path is = ap (λ o. first_of (fault_at Shape o ∷ (early_looks body ++ late_looks body))) is

pub beyond_shape : (body : Data) → least (shape_faults body) ≡ None → refusal_of body ≡ first_of (early_looks body ++ late_looks body)
unfolding refusal_of
beyond_shape body is = ap (λ o. first_of (fault_at Shape o ∷ (early_looks body ++ late_looks body))) is

pub early_refuses : (body : Data) (fault : Fault) → least (shape_faults body) ≡ None → first_of (early_looks body) ≡ Some fault → refusal_of body ≡ Some fault
early_refuses body fault shaped is = beyond_shape body shaped ∙ first_of_early (early_looks body) (late_looks body) fault is

pub late_decides : (body : Data) → least (shape_faults body) ≡ None → first_of (early_looks body) ≡ None → refusal_of body ≡ first_of (late_looks body)
late_decides body shaped typed = beyond_shape body shaped ∙ first_of_later (early_looks body) (late_looks body) typed

pub nothing : {T : Type 0} (o : Option T) → ((x : T) → o ≡ Some x → ⊥) → o ≡ None
nothing None never = refl
nothing (Some x) never = absurd (never x refl)

-- the late looks of what the code gathered are those of the body
pub late_is : (body : Data) (ps : List Property) (fs : List Field) (es : Option (List (List ℕ))) → ps ≡ leaves_of body → fs ≡ fields_of (leaves_of body) → es ≡ entries_of body → first_of (field_looks ps ++ routing_looks fs es) ≡ first_of (late_looks body)
late_is body ps fs es is_ps is_fs is_es = rw (is_ps, is_fs, is_es) refl

pub entries_are : (body : Data) (settings : List Setting) → settings ≡ settings_of body → option_and_then texts_of (value_of RoutingPath settings) ≡ entries_of body
unfolding entries_of
entries_are body settings is = rw is refl

pub schema_is : (body : Data) (fs : List Field) (es : Option (List (List ℕ))) → fs ≡ fields_of (leaves_of body) → es ≡ entries_of body → schema_with fs es ≡ schema_of body
unfolding schema_of
schema_is body fs es is_fs is_es = rw (is_fs, is_es) refl

-- what a template's schema is
pub template_schema : (name : List ℕ) (body : Data) → (template_of name body).schema ≡ schema_of body
unfolding template_of
template_schema name body = refl

pub schema_fields : (body : Data) → (schema_of body).fields ≡ fields_of (leaves_of body)
unfolding schema_of
schema_fields body = refl
