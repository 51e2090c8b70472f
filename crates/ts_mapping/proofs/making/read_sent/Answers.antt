use Rattle.std.proofs.Common.{◌≡◌, ◌≤◌, None, length, sym, ap, ◌∙◌, subst}
use Rattle.std.specs.Prelude.{option_map}
use Rattle.serde_json.specs.View.{view}
use Rattle.ts_mapping.specs.Faults.{first_of, leaves_of}
use Rattle.ts_mapping.specs.Looks.{late_looks}
use Rattle.ts_mapping.specs.Fields.{fields_of}
use Rattle.ts_mapping.specs.Schemas.{IsTemplateSchema}
use Rattle.ts_mapping.specs.Seen.{properties_seen, settings_seen}
use Rattle.ts_mapping.specs.Limits.{most_fields}
use Rattle.ts_mapping.proofs.Refusals.{entries_are, late_decides, late_is, template_schema}
use Rattle.ts_mapping.proofs.SchemaLemmas.{body_fields, body_schema}
use Rattle.ts_mapping.proofs.making.read_sent.Goals as goal

pub returns-in-Some : goal.returns-in-Some
returns-in-Some c =
    let body = view c.args.body.now in
    let fields : c.as_slice.result.now ≡ fields_of (leaves_of body) = c.as_slice.ensures ∙ (c.in_ok-fields.ensures ∙ ap fields_of c.requires.leaves) in
    let entries = c.slice_of.ensures ∙ (c.in_ok-entries.ensures ∙ entries_are body (settings_seen c.args.settings.now) c.requires.settings) in
    let late = late_is body (properties_seen c.args.leaves.now) c.as_slice.result.now (option_map (λ es. es.now) c.slice_of.result) c.requires.leaves fields entries in
    late_decides body c.requires.shape c.requires.early ∙ (sym late ∙ (sym c.in_ok-fault.ensures ∙ c.in-Some.is))

pub schema-requires : goal.schema-requires
schema-requires c =
    let body = view c.args.body.now in
    subst (λ fs. length fs ≤ most_fields) (sym (c.in_ok-fields.ensures ∙ ap fields_of c.requires.leaves)) (body_fields body c.requires.early)

pub returns : goal.returns
returns c =
    let body = view c.args.body.now in
    let fields : c.as_slice.result.now ≡ fields_of (leaves_of body) = c.as_slice.ensures ∙ (c.in_ok-fields.ensures ∙ ap fields_of c.requires.leaves) in
    let entries = c.slice_of.ensures ∙ (c.in_ok-entries.ensures ∙ entries_are body (settings_seen c.args.settings.now) c.requires.settings) in
    let late = late_is body (properties_seen c.args.leaves.now) c.as_slice.result.now (option_map (λ es. es.now) c.slice_of.result) c.requires.leaves fields entries in
    let nothing : first_of (late_looks body) ≡ None = sym late ∙ (sym c.in_ok-fault.ensures ∙ c.in_default.is) in
    let made = c.in_ok-template.ensures in (
      late_decides body c.requires.shape c.requires.early ∙ nothing,
      made,
      subst IsTemplateSchema (sym (ap (λ t. t.schema) made ∙ template_schema c.args.name.now body)) (body_schema body c.requires.shape c.requires.early nothing),
    )
