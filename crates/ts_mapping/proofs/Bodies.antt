-- What a body gives that no look refuses is a template.
use Rattle.std.proofs.Common.{◌≡◌, ℕ, List, [], ◌∷◌, ◌++◌, true, false, Option, Some, None, refl, sym, ap, ◌∙◌, subst}
use Rattle.serde_json.specs.Data.{Data}
use Rattle.ts_mapping.specs.Faults.{first_of, look, refusal_of}
use Rattle.ts_mapping.specs.Laws.{BodiesAreTemplates}
use Rattle.ts_mapping.specs.Least.{least}
use Rattle.ts_mapping.specs.Looks.{early_looks, late_looks}
use Rattle.ts_mapping.specs.Schemas.{IsTemplateSchema}
use Rattle.ts_mapping.specs.Shapes.{shape_faults}
use Rattle.ts_mapping.specs.Templates.{schema_of, template_of}
use Rattle.ts_mapping.specs.declared.faults.Fault.{Fault}
use Rattle.ts_mapping.specs.declared.kinds.MapKind.TheVariants.{Shape}
use Rattle.ts_mapping.proofs.Nothing.{first_look, look_nothing}
use Rattle.ts_mapping.proofs.Ranged.{in_range}
use Rattle.ts_mapping.proofs.Refusals.{beyond_shape, template_schema}
use Rattle.ts_mapping.proofs.SchemaLemmas.{body_schema}

-- looks of which none finds anything are two lists of such
none_early : (xs ys : List (Option Fault)) → first_of (xs ++ ys) ≡ None → first_of xs ≡ None
none_early [] ys is = refl
none_early (None ∷ xs) ys is = none_early xs ys is
none_early (Some f ∷ xs) ys is = is

none_late : (xs ys : List (Option Fault)) → first_of (xs ++ ys) ≡ None → first_of ys ≡ None
none_late [] ys is = is
none_late (None ∷ xs) ys is = none_late xs ys is
none_late (Some f ∷ xs) ys is = cc

shape_none : (body : Data) → refusal_of body ≡ None → least (shape_faults body) ≡ None
unfolding refusal_of
shape_none body none = ap least (look_nothing Shape (shape_faults body) (first_look (look Shape (shape_faults body)) _ none))

schema_is : (body : Data) → refusal_of body ≡ None → IsTemplateSchema (schema_of body)
schema_is body none =
    let shape = shape_none body none in
    let rest : first_of (early_looks body ++ late_looks body) ≡ None = sym (beyond_shape body shape) ∙ none in
    body_schema body shape (none_early (early_looks body) (late_looks body) rest) (none_late (early_looks body) (late_looks body) rest)

raw_is : (name : List ℕ) (body : Data) → (template_of name body).schema.folded ≡ false
unfolding template_of schema_of
raw_is name body = refl

rising_is : (name : List ℕ) (body : Data) → (template_of name body).schema.rises ≡ true
unfolding template_of schema_of
rising_is name body = refl

pub bodies_are_templates : BodiesAreTemplates
bodies_are_templates name body none = record {
  ranges = in_range name body (template_of name body) none refl;
  schema = subst IsTemplateSchema (sym (template_schema name body)) (schema_is body none);
  raw = raw_is name body;
  rising = rising_is name body;
}
