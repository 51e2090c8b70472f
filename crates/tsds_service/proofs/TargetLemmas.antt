-- The indices that a name stands for agree in their fields.
use Rattle.std.specs.Prelude.{◌≡◌, ℕ, Bool, true, false, bytes_eq, List, [], ◌∷◌, Option, Some, None, if◌then◌else◌}
use Rattle.std.specs.List.{cons_option, filter_map}
use Rattle.std.specs.Option.{option_map}
use Rattle.std.proofs.Common.{refl, ap, ◌∙◌, sym, subst}
use Rattle.row_cells.specs.Each.{Each}
use Rattle.row_cells.specs.EachLaws.{Each-weaker}
use Rattle.row_cells.specs.Joining.{FieldsAgree}
use Rattle.stream_catalog.specs.Laws.{FoundAgree}
use Rattle.stream_catalog.specs.Lists.{with_found, stream_named, facts_named, index_named, members_of}
use Rattle.stream_catalog.specs.Plain.{PlainIndex, PlainStream, PlainCatalog, facts_of}
use Rattle.stream_catalog.specs.Sound.{IsMemberOf, IsStreamSound, IsSoundCatalog}
use Rattle.tsds_service.specs.Laws.{TargetsAgree}
use Rattle.tsds_service.specs.Questions.{target_of}
use Rattle.tsds_service.proofs.ItemLemmas.{none_not_some, some_is}
use Rattle.tsds_service.proofs.PickLemmas.{facts-index}

stream_each : (P : PlainStream → Type 0) (n : List ℕ) (ss : List PlainStream) (s : PlainStream) → stream_named n ss ≡ Some s → Each P ss → P s
stream_each P n [] s found each = absurd (none_not_some found)
stream_each P n (x ∷ xs) s found each = by_test (bytes_eq x.facts.name n) found (λ later. stream_each P n xs s later each.1)
  where
    by_test : (b : Bool) → (if b then Some x else stream_named n xs) ≡ Some s → (stream_named n xs ≡ Some s → P s) → P s
    by_test true found later = subst P (some_is found) each.0
    by_test false found later = later found

-- an index of a catalogue, of a template
record IsOf (c : PlainCatalog) (template : List ℕ) (i : PlainIndex) : Type 0 where
  name : List ℕ
  there : index_named name c.indices ≡ Some i
  of : i.facts.template ≡ template

member_is : (c : PlainCatalog) (template m : List ℕ) (i : PlainIndex) → index_named m c.indices ≡ Some i → IsMemberOf template (facts_named m (facts_of c).indices) → IsOf c template i
member_is c template m i there is = record {
  name = m;
  there = there;
  of = subst (IsMemberOf template) (facts-index m c.indices ∙ ap (option_map (λ (j : PlainIndex). j.facts)) there) is;
}

members_are : (c : PlainCatalog) (template : List ℕ) (ms : List (List ℕ)) → Each (λ m. IsMemberOf template (facts_named m (facts_of c).indices)) ms →
    Each (IsOf c template) (filter_map (λ n. index_named n c.indices) ms)
members_are c template [] are = tt
members_are c template (m ∷ ms) are = by_found (index_named m c.indices) refl (members_are c template ms are.1)
  where
    by_found : (o : Option PlainIndex) → index_named m c.indices ≡ o → Each (IsOf c template) (filter_map (λ n. index_named n c.indices) ms)
        → Each (IsOf c template) (cons_option o (filter_map (λ n. index_named n c.indices) ms))
    by_found None there later = later
    by_found (Some i) there later = (member_is c template m i there are.0, later)

abbrev Agree : PlainIndex → PlainIndex → Type 0
Agree i j = FieldsAgree i.facts.mapping.schema.fields j.facts.mapping.schema.fields

module _ (agree : FoundAgree) (c : PlainCatalog) (sound : IsSoundCatalog c) where
  all_agree : (template : List ℕ) (is : List PlainIndex) → Each (IsOf c template) is → Each (λ i. Each (Agree i) is) is
  all_agree template is are =
      Each-weaker (IsOf c template) (λ i. Each (Agree i) is)
      (λ i one. Each-weaker (IsOf c template) (Agree i) (λ j other. agree c one.name other.name i j sound one.there other.there (one.of ∙ sym other.of)) is are) is are

  of_stream : (s : PlainStream) → IsStreamSound (facts_of c) s → (is : List PlainIndex) → members_of c s ≡ is → Each (λ i. Each (Agree i) is) is
  of_stream s is_stream is same =
      subst (λ js. Each (λ i. Each (Agree i) js) js) same
      (all_agree s.facts.template (members_of c s) (members_are c s.facts.template s.facts.members is_stream.members))

  target_agrees : (name : List ℕ) (is : List PlainIndex) → target_of c name ≡ Some is → Each (λ i. Each (Agree i) is) is
  target_agrees name is told = by_stream (stream_named name c.streams) refl told
    where
      by_index : (o : Option PlainIndex) → index_named name c.indices ≡ o → with_found o None (λ i. Some (i ∷ [])) ≡ Some is → Each (λ i. Each (Agree i) is) is
      by_index None there told = absurd (none_not_some told)
      by_index (Some i) there told =
          subst (λ js. Each (λ k. Each (Agree k) js) js) (some_is told) ((agree c name name i i sound there there refl, tt), tt)

      by_stream : (o : Option PlainStream) → stream_named name c.streams ≡ o →
          with_found o (with_found (index_named name c.indices) None (λ i. Some (i ∷ []))) (λ s. Some (members_of c s)) ≡ Some is → Each (λ i. Each (Agree i) is) is
      by_stream None found told = by_index (index_named name c.indices) refl told
      by_stream (Some s) found told = of_stream s (stream_each (IsStreamSound (facts_of c)) name c.streams s found sound.facts.streams) is (some_is told)

pub targets_agree : FoundAgree → TargetsAgree
targets_agree agree m name is sound told = target_agrees agree m.catalog sound.catalog name is told
