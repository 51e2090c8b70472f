-- A catalogue with a template put stays sound.
use Rattle.std.specs.Prelude.{◌≡◌, ℕ, suc, ◌≤◌, ◌<◌, ◌&&◌, ◌||◌, ◌==◌, Bool, not, true, false, cond, nat_le, List, [], ◌∷◌, map, length, Option, Some, None, if◌then◌else◌, bytes_eq}
use Rattle.std.specs.List.{list_any, find}
use Rattle.std.specs.Option.{is_some, option_map, option_or}
use Rattle.std.proofs.Common.{refl, ap, ◌∙◌, sym, subst, arith, inl, inr}
use Rattle.std.proofs.lemmas.Bool.{eqb-true, leb-false}
use Rattle.std.proofs.lemmas.Slice.Eq.{bytes_eq-Decides}
use Rattle.row_cells.specs.declared.schemas.FieldType.{FieldType}
use Rattle.row_cells.specs.declared.schemas.Role.{Role}
use Rattle.row_cells.specs.declared.schemas.Field.{Field}
use Rattle.row_cells.specs.Each.{Each}
use Rattle.row_cells.specs.EachLaws.{Each-weaker, Each-both, Each-filter}
use Rattle.row_cells.specs.Joining.{IsIn, FieldsAgree}
use Rattle.ts_mapping.specs.Agreeing.{kind_number, role_number, is_other_field}
use Rattle.ts_mapping.specs.declared.templates.Template.{Template}
use Rattle.ts_mapping.specs.Facts.{IsTemplate}
use Rattle.stream_catalog.specs.declared.answers.Refusal.{Refusal}
use Rattle.stream_catalog.specs.declared.answers.Refusal.TheVariants.{ChangedField, Limit}
use Rattle.stream_catalog.specs.declared.answers.What.TheVariants.{Templates}
use Rattle.stream_catalog.specs.declared.facts.HeldIndex.{HeldIndex}
use Rattle.stream_catalog.specs.Plain.{facts_of}
use Rattle.stream_catalog.specs.Lists.{when, inserted, without, template_name, template_named}
use Rattle.stream_catalog.specs.Limits.{most_templates}
use Rattle.stream_catalog.specs.Streams.{maps_otherwise, changed_field}
use Rattle.stream_catalog.specs.Laws.{TemplatesKeepSound}
use Rattle.stream_catalog.specs.Sound.{times, IsThere, IsHeld, IsStreamSound, form_of, template_form, Agrees}
use Rattle.stream_catalog.proofs.NamedLemmas.{none_not_some, none_found, each_inserted, named_inserted, named_without}
use Rattle.stream_catalog.proofs.CountLemmas.{named_new, length-filter, length-inserted, length-without, ascend_inserted, ascend_filter}
use Rattle.stream_catalog.proofs.AddedLemmas.{each_map, each_of_map}
use Rattle.stream_catalog.proofs.FoldedLemmas.{none_first, none_when, none_map}
use Rattle.stream_catalog.proofs.FieldNumbers.{kind_by_number, role_by_number}

-- ---- what is taken out is gone

pub without-gone : {A : Type 0} (name : A → List ℕ) (n : List ℕ) (xs : List A) → times n (map name (without name n xs)) ≡ 0
without-gone name n [] = refl
without-gone name n (x ∷ xs) = by_test (bytes_eq (name x) n) refl (without-gone name n xs)
  where
    by_test : (b : Bool) → bytes_eq (name x) n ≡ b → times n (map name (without name n xs)) ≡ 0 → times n (map name (cond (not b) (x ∷ without name n xs) (without name n xs))) ≡ 0
    by_test true is later = later
    by_test false is later = ap (λ b. if b then suc (times n (map name (without name n xs))) else times n (map name (without name n xs))) is ∙ later

-- ---- fields that nobody maps in another way

pub neither : {A : Type 0} (o p : Option A) → option_or o p ≡ None → (o ≡ None) × (p ≡ None)
neither None p none = (refl, none)
neither (Some a) p none = absurd (none_not_some (sym none))

-- tests that all fail
no_other : (test : Field → Bool) (gs : List Field) → list_any test gs ≡ false → (g : Field) → IsIn g gs → test g ≡ false
no_other test [] none g is_in = absurd is_in
no_other test (x ∷ xs) none g is_in = by_test (test x) refl none (λ left later. no_other test xs left g later)
  where
    by_test : (b : Bool) → test x ≡ b → (b || list_any test xs) ≡ false → (list_any test xs ≡ false → IsIn g xs → test g ≡ false) → test g ≡ false
    by_test true is none later = cc
    by_test false is none later = elim is_in [ inl same ↦ ap test same ∙ is | inr among ↦ later none among ]

-- a field that isn't another one of its path is the same
pub same_field : (f g : Field) → g.path ≡ f.path → is_other_field f g ≡ false → g ≡ f
same_field f g path other = by_tests (kind_number f.kind == kind_number g.kind) (role_number f.role == role_number g.role) refl refl (ap (λ b. b && not ((kind_number f.kind == kind_number g.kind) && (role_number f.role == role_number g.role))) (sym ((bytes_eq-Decides f.path g.path).1 (sym path))) ∙ other)
  where
    made : List ℕ → FieldType → Role → Field
    made path kind role = record { path = path; kind = kind; role = role }

    by_tests : (a b : Bool) → (kind_number f.kind == kind_number g.kind) ≡ a → (role_number f.role == role_number g.role) ≡ b → not (a && b) ≡ false → g ≡ f
    by_tests true true kind role is =
        ap (λ p. made p g.kind g.role) path ∙ (ap (λ k. made f.path k g.role) (sym (kind_by_number f.kind g.kind (eqb-true (kind_number f.kind) (kind_number g.kind) kind)))
        ∙ ap (λ r. made f.path f.kind r) (sym (role_by_number f.role g.role (eqb-true (role_number f.role) (role_number g.role) role))))
    by_tests true false kind role is = cc
    by_tests false b kind role is = cc

agrees_one : (template : List ℕ) (f : Field) (i : HeldIndex) → maps_otherwise template f i ≡ false → i.template ≡ template → (g : Field) → IsIn g i.mapping.schema.fields → g.path ≡ f.path → g ≡ f
agrees_one template f i none same g is_in path =
    same_field f g path (no_other (is_other_field f) i.mapping.schema.fields
    (ap (λ b. b && list_any (is_other_field f) i.mapping.schema.fields) (sym ((bytes_eq-Decides i.template template).1 same)) ∙ none) g is_in)

agrees_all : (template : List ℕ) (is : List HeldIndex) (fs : List Field) → changed_field template is fs ≡ None → Each (λ i. i.template ≡ template → FieldsAgree i.mapping.schema.fields fs) is
agrees_all template is [] none = nothing is
  where
    nothing : (is : List HeldIndex) → Each (λ i. i.template ≡ template → FieldsAgree i.mapping.schema.fields []) is
    nothing [] = tt
    nothing (i ∷ is) = (λ same f g in_f in_g path. absurd in_g, nothing is)
agrees_all template is (f ∷ fs) none =
    let both = neither (option_map (λ i. ChangedField f.path i.name) (find (maps_otherwise template f) is)) (changed_field template is fs) none in
    let here = none_found (maps_otherwise template f) is (none_map (λ (i : HeldIndex). ChangedField f.path i.name) (find (maps_otherwise template f) is) both.0) in
    Each-both (λ i. maps_otherwise template f i ≡ false) (λ i. i.template ≡ template → FieldsAgree i.mapping.schema.fields fs) (λ i. i.template ≡ template → FieldsAgree i.mapping.schema.fields (f ∷ fs))
    (λ i one others same g h in_g in_h path. elim in_h [
      | inl is_f ↦ agrees_one template f i one same g in_g (path ∙ ap (λ (x : Field). x.path) is_f) ∙ sym is_f
      | inr later ↦ others same g h in_g later path
    ]) is here (agrees_all template is fs both.1)

-- ---- look-ups

module _ (ts : List Template) (t : Template) where
  abbrev rest : List Template
  rest = without template_name t.name ts

  abbrev put_in : List Template
  put_in = inserted template_name t rest

  there_still : (m : List ℕ) → IsThere (template_named m ts) → IsThere (template_named m put_in)
  there_still m is = by_test (bytes_eq t.name m) refl
    where
      by_test : (b : Bool) → bytes_eq t.name m ≡ b → IsThere (template_named m put_in)
      by_test true here = subst (λ k. IsThere (template_named k put_in)) ((bytes_eq-Decides t.name m).0 here) (subst IsThere (sym (named_new template_name t rest (without-gone template_name t.name ts))) tt)
      by_test false other = subst IsThere (sym (named_inserted template_name m t rest other ∙ named_without template_name t.name m ts other)) is

  few_enough : length ts ≤ 1000 → (not (is_some (template_named t.name ts)) && nat_le 1000 (length ts)) ≡ false → length put_in ≤ 1000
  few_enough few none = by_found (template_named t.name ts) refl none
    where
      by_found : (o : Option Template) → template_named t.name ts ≡ o → (not (is_some o) && nat_le 1000 (length ts)) ≡ false → length put_in ≤ 1000
      by_found None found none =
          let room : length ts < 1000 = leb-false 1000 (length ts) none in
          let less = length-filter template_name (λ x. not (bytes_eq (template_name x) t.name)) ts in
          let more = length-inserted template_name t rest in
          omega (arith, room, less, more)
      by_found (Some u) found none =
          let less = length-without template_name t.name ts u found in
          let more = length-inserted template_name t rest in
          omega (arith, few, less, more)

pub templates_keep_sound : TemplatesKeepSound
templates_keep_sound c t is_template sound none =
    let f = facts_of c in
    let test : Template → Bool = λ x. not (bytes_eq (template_name x) t.name) in
    let ts = put_in f.templates t in
    let left = rest f.templates t in
    let new = record f { templates = ts } in
    let limit : List (Option Refusal) = when (not (is_some (template_named t.name f.templates)) && nat_le most_templates (length f.templates)) (Limit Templates) ∷ [] in
    let first = none_first (changed_field t.name f.indices t.schema.fields) limit none in
    let second = none_first (when (not (is_some (template_named t.name f.templates)) && nat_le most_templates (length f.templates)) (Limit Templates)) [] first.1 in
    let agree = agrees_all t.name f.indices t.schema.fields first.0 in
    record {
      facts = record {
        templates = each_inserted template_name IsTemplate t left is_template (Each-filter IsTemplate test f.templates sound.facts.templates);
        indices = Each-weaker (IsHeld f) (IsHeld new) (λ i is. record { begins = is.begins; ends = is.ends; some = is.some; mapping = is.mapping; kind = is.kind; template = there_still f.templates t i.template is.template }) f.indices sound.facts.indices;
        streams = Each-weaker (IsStreamSound f) (IsStreamSound new) (λ s is. record {
          generation = is.generation;
          life = is.life;
          template = there_still f.templates t s.facts.template is.template;
          some = is.some;
          members = is.members;
          windows = is.windows;
        }) f.streams sound.facts.streams;
        tasks = sound.facts.tasks;
        indices_agree = sound.facts.indices_agree;
        templates_agree = each_map form_of (λ a. Each (Agrees a) (map template_form ts)) f.indices
            (Each-both (λ i. Each (Agrees (form_of i)) (map template_form f.templates)) (λ i. i.template ≡ t.name → FieldsAgree i.mapping.schema.fields t.schema.fields) (λ i. Each (Agrees (form_of i)) (map template_form ts))
            (λ i all here. each_map template_form (Agrees (form_of i)) ts
            (each_inserted template_name (λ u. Agrees (form_of i) (template_form u)) t left here (Each-filter (λ u. Agrees (form_of i) (template_form u)) test f.templates (each_of_map template_form (Agrees (form_of i)) f.templates all))))
            f.indices (each_of_map form_of (λ a. Each (Agrees a) (map template_form f.templates)) f.indices sound.facts.templates_agree) agree);
        template_order = ascend_inserted template_name t left (ascend_filter template_name test f.templates sound.facts.template_order) (without-gone template_name t.name f.templates);
        stream_order = sound.facts.stream_order;
        index_order = sound.facts.index_order;
        names_once = sound.facts.names_once;
        members_once = sound.facts.members_once;
        tasks_once = sound.facts.tasks_once;
        few_templates = few_enough f.templates t sound.facts.few_templates (none_when (not (is_some (template_named t.name f.templates)) && nat_le most_templates (length f.templates)) (Limit Templates) second.0);
        few_streams = sound.facts.few_streams;
        few_indices = sound.facts.few_indices;
      };
      indices = sound.indices;
      tasks = sound.tasks;
    }
