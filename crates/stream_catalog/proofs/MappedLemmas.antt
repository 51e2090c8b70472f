-- The first field that an index maps in another way, found index by index.
use Rattle.std.specs.Prelude.{◌≡◌, ℕ, ◌&&◌, Bool, true, false, List, [], ◌∷◌, Option, Some, None, if◌then◌else◌, bytes_eq}
use Rattle.std.specs.List.{list_any, find}
use Rattle.std.specs.Option.{option_map, option_or}
use Rattle.std.specs.Ordering.{is_lt, nat_cmp, ordering_reverse}
use Rattle.std.specs.Cmp.{tied_itself}
use Rattle.std.specs.Cmp.Lexicographic.{slice_cmp, nat_list_cmp_total}
use Rattle.std.proofs.Common.{refl, ap, ◌∙◌, sym, subst}
use Rattle.row_cells.specs.Dimensions.{IsBefore}
use Rattle.row_cells.specs.Fitting.{FieldsAscend, FieldsAscendAfter}
use Rattle.row_cells.specs.JoinLaws.{ascend_lower}
use Rattle.row_cells.specs.declared.schemas.Field.{Field}
use Rattle.ts_mapping.specs.Agreeing.{is_other_field, other_path}
use Rattle.row_cells.specs.Each.{Each}
use Rattle.row_cells.specs.EachLaws.{Each-weaker}
use Rattle.ts_mapping.specs.Facts.{IsMapping}
use Rattle.stream_catalog.specs.declared.answers.CatalogError.{CatalogError}
use Rattle.stream_catalog.specs.declared.answers.Refusal.{Refusal}
use Rattle.stream_catalog.specs.declared.answers.Refusal.TheVariants.{ChangedField}
use Rattle.stream_catalog.specs.declared.facts.HeldIndex.{HeldIndex}
use Rattle.stream_catalog.specs.Mapped.{OtherAt, other_in, earlier_of, first_other_of}
use Rattle.stream_catalog.specs.Plain.{PlainFacts}
use Rattle.stream_catalog.specs.Streams.{IsCause, maps_otherwise, changed_field}
use Rattle.stream_catalog.proofs.NamedLemmas.{none_not_some, some_is}

abbrev pub told : OtherAt → Refusal
told o = ChangedField o.path o.index

-- ---- what is found lies among the fields

path_after : (p : List ℕ) (fs gs : List Field) (q : List ℕ) → FieldsAscendAfter p fs → other_path fs gs ≡ Some q → IsBefore p q
path_after p [] gs q ascend is = absurd (none_not_some is)
path_after p (f ∷ fs) gs q ascend is = by_test (list_any (is_other_field f) gs) is (path_after p fs gs q (ascend_lower p f.path fs ascend.0 ascend.1))
  where
    by_test : (b : Bool) → (if b then Some f.path else other_path fs gs) ≡ Some q → (other_path fs gs ≡ Some q → IsBefore p q) → IsBefore p q
    by_test true is later = subst (IsBefore p) (some_is is) ascend.0
    by_test false is later = later is

in_after : (template p : List ℕ) (fs : List Field) (i : HeldIndex) (q : List ℕ) → FieldsAscendAfter p fs → other_in template fs i ≡ Some q → IsBefore p q
in_after template p fs i q ascend is = by_test (bytes_eq i.template template) is
  where
    by_test : (b : Bool) → (if b then other_path fs i.mapping.schema.fields else None) ≡ Some q → IsBefore p q
    by_test true is = path_after p fs i.mapping.schema.fields q ascend is
    by_test false is = absurd (none_not_some is)

refused_path : (p q n m : List ℕ) → Some (ChangedField p n) ≡ Some (ChangedField q m) → p ≡ q
refused_path p q n m is = cc

refused_index : (p q n m : List ℕ) → Some (ChangedField p n) ≡ Some (ChangedField q m) → n ≡ m
refused_index p q n m is = cc

changed_after : (template p : List ℕ) (is : List HeldIndex) (fs : List Field) (q n : List ℕ) → FieldsAscendAfter p fs → changed_field template is fs ≡ Some (ChangedField q n) → IsBefore p q
changed_after template p is [] q n ascend found = absurd (none_not_some found)
changed_after template p is (f ∷ fs) q n ascend found =
    by_found (find (maps_otherwise template f) is) found (changed_after template p is fs q n (ascend_lower p f.path fs ascend.0 ascend.1))
  where
    by_found : (o : Option HeldIndex) → option_or (option_map (λ (j : HeldIndex). ChangedField f.path j.name) o) (changed_field template is fs) ≡ Some (ChangedField q n) → (changed_field template is fs ≡ Some (ChangedField q n) → IsBefore p q) → IsBefore p q
    by_found None found later = later found
    by_found (Some j) found later = subst (IsBefore p) (refused_path f.path q j.name n found) ascend.0

-- what the fields from one on give isn't before that one
changed_from : (template : List ℕ) (is : List HeldIndex) (f : Field) (fs : List Field) (q n : List ℕ) → FieldsAscendAfter f.path fs → changed_field template is (f ∷ fs) ≡ Some (ChangedField q n) → is_lt (slice_cmp nat_cmp q f.path) ≡ false
changed_from template is f fs q n ascend found = by_found (find (maps_otherwise template f) is) found
  where
    by_found : (o : Option HeldIndex) → option_or (option_map (λ (j : HeldIndex). ChangedField f.path j.name) o) (changed_field template is fs) ≡ Some (ChangedField q n) → is_lt (slice_cmp nat_cmp q f.path) ≡ false
    by_found None found = ap is_lt (nat_list_cmp_total.antisymm q f.path ∙ ap ordering_reverse (changed_after template f.path is fs q n ascend found))
    by_found (Some j) found = subst (λ k. is_lt (slice_cmp nat_cmp k f.path) ≡ false) (refused_path f.path q j.name n found) (ap is_lt (tied_itself nat_list_cmp_total f.path))

-- ---- one index more

module _ (template : List ℕ) (i : HeldIndex) (is : List HeldIndex) where
  abbrev HasStep : List Field → Type 0
  HasStep fs = (o : Option OtherAt) → option_map told o ≡ changed_field template is fs → changed_field template (i ∷ is) fs ≡ option_map told (earlier_of (other_in template fs i) i.name o)

  -- the index maps the first field in another way
  first_here : (f : Field) (fs : List Field) → FieldsAscendAfter f.path fs → maps_otherwise template f i ≡ true → HasStep (f ∷ fs)
  first_here f fs ascend is_other o told_is =
      rw is_other (sym (ap (λ p. option_map told (earlier_of p i.name o)) (here (bytes_eq i.template template) (list_any (is_other_field f) i.mapping.schema.fields) is_other) ∙ by_later o told_is))
    where
      here : (a b : Bool) → (a && b) ≡ true → (if a then (if b then Some f.path else other_path fs i.mapping.schema.fields) else None) ≡ Some f.path
      here true true both = refl
      here true false both = cc
      here false b both = cc

      by_later : (o : Option OtherAt) → option_map told o ≡ changed_field template is (f ∷ fs) → option_map told (earlier_of (Some f.path) i.name o) ≡ Some (ChangedField f.path i.name)
      by_later None told_is = refl
      by_later (Some u) told_is = rw (changed_from template is f fs u.path u.index ascend (sym told_is)) refl

  skipped : (f : Field) (fs : List Field) → maps_otherwise template f i ≡ false → other_in template (f ∷ fs) i ≡ other_in template fs i
  skipped f fs none = by_tests (bytes_eq i.template template) (list_any (is_other_field f) i.mapping.schema.fields) none
    where
      by_tests : (a b : Bool) → (a && b) ≡ false → (if a then (if b then Some f.path else other_path fs i.mapping.schema.fields) else None) ≡ (if a then other_path fs i.mapping.schema.fields else None)
      by_tests true true none = cc
      by_tests true false none = refl
      by_tests false b none = refl

  -- it doesn't, and a later one does or none
  first_later : (f : Field) (fs : List Field) → FieldsAscendAfter f.path fs → maps_otherwise template f i ≡ false → HasStep fs → HasStep (f ∷ fs)
  first_later f fs ascend none step o told_is =
      rw (none, skipped f fs none) (by_found (find (maps_otherwise template f) is) told_is)
    where
      by_path : (p : Option (List ℕ)) (j : HeldIndex) → other_in template fs i ≡ p → (u : OtherAt) → u.path ≡ f.path → u.index ≡ j.name → option_map told (earlier_of p i.name (Some u)) ≡ Some (ChangedField f.path j.name)
      by_path None j is_path u path index = cc
      by_path (Some p) j is_path u path index = rw (ap (λ q. is_lt (slice_cmp nat_cmp q p)) path ∙ ap is_lt (in_after template f.path fs i p ascend is_path)) (rw (path, index) refl)

      by_some : (j : HeldIndex) (v : Option OtherAt) → option_map told v ≡ Some (ChangedField f.path j.name) → Some (ChangedField f.path j.name) ≡ option_map told (earlier_of (other_in template fs i) i.name v)
      by_some j None is_told = absurd (none_not_some is_told)
      by_some j (Some u) is_told = sym (by_path (other_in template fs i) j refl u (refused_path u.path f.path u.index j.name is_told) (refused_index u.path f.path u.index j.name is_told))

      by_found : (r : Option HeldIndex) → option_map told o ≡ option_or (option_map (λ (j : HeldIndex). ChangedField f.path j.name) r) (changed_field template is fs)
          → option_or (option_map (λ (j : HeldIndex). ChangedField f.path j.name) r) (changed_field template (i ∷ is) fs) ≡ option_map told (earlier_of (other_in template fs i) i.name o)
      by_found None is_told = step o is_told
      by_found (Some j) is_told = by_some j o is_told

  has_step : (p : List ℕ) (fs : List Field) → FieldsAscendAfter p fs → HasStep fs
  has_step p [] ascend o told_is = sym (by_test (bytes_eq i.template template) ∙ told_is)
    where
      by_test : (b : Bool) → option_map told (earlier_of (if b then None else None) i.name o) ≡ option_map told o
      by_test true = refl
      by_test false = refl
  has_step p (f ∷ fs) ascend o told_is = by_test (maps_otherwise template f i) refl (has_step f.path fs ascend.1) o told_is
    where
      by_test : (b : Bool) → maps_otherwise template f i ≡ b → HasStep fs → HasStep (f ∷ fs)
      by_test true is_other later = first_here f fs ascend.1 is_other
      by_test false none later = first_later f fs ascend.1 none later

no_index : (template : List ℕ) (fs : List Field) → changed_field template [] fs ≡ None
no_index template [] = refl
no_index template (f ∷ fs) = no_index template fs

pub others_told : (template : List ℕ) (fs : List Field) (is : List HeldIndex) → FieldsAscend fs → option_map told (first_other_of template fs is) ≡ changed_field template is fs
others_told template fs [] ascend = sym (no_index template fs)
others_told template fs (i ∷ is) ascend = sym (has_step template i is [] fs ascend (first_other_of template fs is) (others_told template fs is ascend))

-- ---- what a walk over the indices tells

changed_by : (f : PlainFacts) (template : List ℕ) (fs : List Field) (is : List HeldIndex) (o : Option OtherAt) → FieldsAscend fs → is ≡ f.indices → o ≡ first_other_of template fs is → changed_field template f.indices fs ≡ option_map told o
changed_by f template fs is o ascend same found =
    ap (λ js. changed_field template js fs) (sym same) ∙ (sym (others_told template fs is ascend) ∙ ap (option_map told) (sym found))

pub none_changed : (f : PlainFacts) (template : List ℕ) (fs : List Field) (is : List HeldIndex) → FieldsAscend fs → is ≡ f.indices → None ≡ first_other_of template fs is → changed_field template f.indices fs ≡ None
none_changed f template fs is ascend same found = changed_by f template fs is None ascend same found

pub one_changed : (f : PlainFacts) (template : List ℕ) (fs : List Field) (is : List HeldIndex) (o : OtherAt) (path index : List ℕ) (e : CatalogError) → FieldsAscend fs → is ≡ f.indices → Some o ≡ first_other_of template fs is →
    path ≡ o.path → index ≡ o.index → IsCause (Some (ChangedField path index)) e → IsCause (changed_field template f.indices fs) e
one_changed f template fs is o path index e ascend same found path_is index_is cause =
    subst (λ r. IsCause r e) (ap (λ p. Some (ChangedField p index)) path_is ∙ (ap (λ i. Some (ChangedField o.path i)) index_is ∙ sym (changed_by f template fs is (Some o) ascend same found))) cause

-- mappings have fields whose paths ascend
pub mappings_ascend : (is : List HeldIndex) → Each (λ i. IsMapping i.mapping) is → Each (λ i. FieldsAscend i.mapping.schema.fields) is
mappings_ascend is each = Each-weaker (λ (i : HeldIndex). IsMapping i.mapping) (λ (i : HeldIndex). FieldsAscend i.mapping.schema.fields) (λ i is_mapping. is_mapping.schema.mapped.ascending) is each
