-- Facts of a catalogue that stay sound when an index's facts change.
use Rattle.std.specs.Prelude.{◌≡◌, ℕ, ℤ, ◌≤ℤ◌, Bool, true, false, List, [], ◌∷◌, ◌++◌, ◌≤◌, map, Option, Some, None, if◌then◌else◌, bytes_eq}
use Rattle.std.specs.Option.{option_map}
use Rattle.std.proofs.Common.{refl, ap, ◌∙◌, sym, subst}
use Rattle.std.proofs.lemmas.Slice.Eq.{bytes_eq-Decides}
use Rattle.row_cells.specs.Each.{Each}
use Rattle.row_cells.specs.EachLaws.{Each-weaker}
use Rattle.time_text.specs.declared.intervals.Interval.{Interval}
use Rattle.stream_catalog.specs.declared.facts.HeldIndex.{HeldIndex}
use Rattle.stream_catalog.specs.declared.facts.TaskFacts.{TaskFacts}
use Rattle.stream_catalog.specs.Plain.{PlainStream, PlainFacts}
use Rattle.downsample_fold.specs.Laws.{KeysAscend}
use Rattle.stream_catalog.specs.Lists.{updated, facts_name, facts_named, template_named}
use Rattle.stream_catalog.specs.Sound.{IsHeld, IsMemberOf, EndsBefore, WindowsFollow, IsStreamSound, IsTaskOf, IsThere, form_of, template_form, AreFactsSound, AllAgree, AreOnce}
use Rattle.stream_catalog.proofs.NamedLemmas.{none_not_some, some_is, each_found, each_updated, named_updated, named_updated_here, names_updated}
use Rattle.stream_catalog.proofs.CountLemmas.{length-updated}

-- ---- what streams ask of an index

pub record Window : Type 0 where
  pub template : List ℕ
  pub start : ℤ
  pub end : ℤ

abbrev pub window : HeldIndex → Window
window i = record { template = i.template; start = i.start; end = i.end }

-- what was there has its window and its template still
abbrev pub WindowAt : Option HeldIndex → Option HeldIndex → Type 0
WindowAt None p = Unit {0}
WindowAt (Some i) p = option_map window p ≡ Some (window i)

pub at_of : (o p : Option HeldIndex) → option_map window p ≡ option_map window o → WindowAt o p
at_of None p same = tt
at_of (Some i) p same = same

pub same_member : (template : List ℕ) (o p : Option HeldIndex) → WindowAt o p → IsMemberOf template o → IsMemberOf template p
same_member template None p same is = absurd is
same_member template (Some i) None same is = absurd (none_not_some same)
same_member template (Some i) (Some j) same is = ap (λ (w : Window). w.template) (some_is same) ∙ is

pub same_ends : (o p q r : Option HeldIndex) → WindowAt o q → WindowAt p r → EndsBefore o p → EndsBefore q r
same_ends None p q r first second is = absurd is
same_ends (Some a) None q r first second is = absurd is
same_ends (Some a) (Some b) None r first second is = absurd (none_not_some first)
same_ends (Some a) (Some b) (Some c) None first second is = absurd (none_not_some second)
same_ends (Some a) (Some b) (Some c) (Some d) first second is =
    subst (λ (w : Window). w.end ≤ℤ d.start) (sym (some_is first)) (subst (λ (w : Window). a.end ≤ℤ w.start) (sym (some_is second)) is)

module _ (old new : List HeldIndex) (same : (m : List ℕ) → WindowAt (facts_named m old) (facts_named m new)) where
  same_windows : (ms : List (List ℕ)) → WindowsFollow (map (λ m. facts_named m old) ms) → WindowsFollow (map (λ m. facts_named m new) ms)
  same_windows [] follow = tt
  same_windows (m ∷ []) follow = tt
  same_windows (m ∷ n ∷ ms) follow =
      (same_ends (facts_named m old) (facts_named n old) (facts_named m new) (facts_named n new) (same m) (same n) follow.0, same_windows (n ∷ ms) follow.1)

  -- streams of indices that keep templates and windows
  pub same_streams : (f g : PlainFacts) → f.indices ≡ old → g.indices ≡ new → f.templates ≡ g.templates → (ss : List PlainStream) → Each (IsStreamSound f) ss → Each (IsStreamSound g) ss
  same_streams f g is_old is_new templates ss each =
      Each-weaker (IsStreamSound f) (IsStreamSound g) (λ s is. record {
        generation = is.generation;
        life = is.life;
        template = subst (λ ts. IsThere (template_named s.facts.template ts)) templates is.template;
        some = is.some;
        members = subst (λ js. Each (λ m. IsMemberOf s.facts.template (facts_named m js)) s.facts.members) (sym is_new)
            (Each-weaker (λ m. IsMemberOf s.facts.template (facts_named m old)) (λ m. IsMemberOf s.facts.template (facts_named m new))
            (λ m member. same_member s.facts.template (facts_named m old) (facts_named m new) (same m) member) s.facts.members
            (subst (λ js. Each (λ m. IsMemberOf s.facts.template (facts_named m js)) s.facts.members) is_old is.members));
        windows = subst (λ js. WindowsFollow (map (λ m. facts_named m js) s.facts.members)) (sym is_new)
            (same_windows s.facts.members (subst (λ js. WindowsFollow (map (λ m. facts_named m js) s.facts.members)) is_old is.windows));
      }) ss each

-- ---- one index's facts changed, but for names, templates and mappings

module _ (n : List ℕ) (g : HeldIndex → HeldIndex) (name : (i : HeldIndex) → (g i).name ≡ i.name) (form : (i : HeldIndex) → form_of (g i) ≡ form_of i) where
  forms_stay : (is : List HeldIndex) → map form_of (updated facts_name n g is) ≡ map form_of is
  forms_stay [] = refl
  forms_stay (i ∷ is) = by_test (bytes_eq i.name n) (forms_stay is)
    where
      by_test : (b : Bool) → map form_of (updated facts_name n g is) ≡ map form_of is → map form_of (if b then g i ∷ is else i ∷ updated facts_name n g is) ≡ form_of i ∷ map form_of is
      by_test true later = ap (λ x. x ∷ map form_of is) (form i)
      by_test false later = ap (λ xs. form_of i ∷ xs) later

  pub changed_facts : (f : PlainFacts) → ((i : HeldIndex) → facts_named n f.indices ≡ Some i → IsHeld f i → IsHeld f (g i)) →
      ((by : Interval) (rises : Bool) (i : HeldIndex) → IsTaskOf by rises (Some i) → IsTaskOf by rises (Some (g i))) →
      Each (IsStreamSound (record f { indices = updated facts_name n g f.indices })) f.streams →
      AreFactsSound f → AreFactsSound (record f { indices = updated facts_name n g f.indices })
  changed_facts f held task streams sound =
      let new = record f { indices = updated facts_name n g f.indices } in
      let names : map facts_name (updated facts_name n g f.indices) ≡ map facts_name f.indices = names_updated facts_name n g f.indices name in
      let forms = forms_stay f.indices in
      record {
        templates = sound.templates;
        indices = Each-weaker (IsHeld f) (IsHeld new) (λ i is. record { begins = is.begins; ends = is.ends; some = is.some; mapping = is.mapping; kind = is.kind; template = is.template }) (updated facts_name n g f.indices)
            (each_updated facts_name (IsHeld f) n g f.indices (λ i found. held i found (each_found facts_name (IsHeld f) n f.indices i found sound.indices)) sound.indices);
        streams = streams;
        tasks = Each-weaker (λ t. IsTaskOf t.by t.rises (facts_named t.index f.indices)) (λ t. IsTaskOf t.by t.rises (facts_named t.index (updated facts_name n g f.indices)))
            (λ t is. task_stays t (bytes_eq n t.index) refl is) f.tasks sound.tasks;
        indices_agree = subst (λ fs. AllAgree fs fs) (sym forms) sound.indices_agree;
        templates_agree = subst (λ fs. AllAgree fs (map template_form f.templates)) (sym forms) sound.templates_agree;
        template_order = sound.template_order;
        stream_order = sound.stream_order;
        index_order = subst KeysAscend (sym names) sound.index_order;
        names_once = subst (λ ns. AreOnce (map (λ s. s.facts.name) f.streams ++ ns ++ map (λ t. t.target) f.tasks)) (sym names) sound.names_once;
        members_once = sound.members_once;
        tasks_once = sound.tasks_once;
        few_templates = sound.few_templates;
        few_streams = sound.few_streams;
        few_indices = subst (λ k. k ≤ 10000) (sym (length-updated facts_name n g f.indices)) sound.few_indices;
      }
    where
      by_found : (by : Interval) (rises : Bool) (o : Option HeldIndex) → IsTaskOf by rises o → IsTaskOf by rises (option_map g o)
      by_found by rises None is = is
      by_found by rises (Some i) is = task by rises i is

      task_stays : (t : TaskFacts) (b : Bool) → bytes_eq n t.index ≡ b → IsTaskOf t.by t.rises (facts_named t.index f.indices) → IsTaskOf t.by t.rises (facts_named t.index (updated facts_name n g f.indices))
      task_stays t true here is =
          subst (λ k. IsTaskOf t.by t.rises (facts_named k (updated facts_name n g f.indices))) ((bytes_eq-Decides n t.index).0 here)
          (subst (IsTaskOf t.by t.rises) (sym (named_updated_here facts_name n g f.indices name))
          (by_found t.by t.rises (facts_named n f.indices) (subst (λ k. IsTaskOf t.by t.rises (facts_named k f.indices)) (sym ((bytes_eq-Decides n t.index).0 here)) is)))
      task_stays t false other is = subst (IsTaskOf t.by t.rises) (sym (named_updated facts_name n t.index g f.indices name other)) is

-- ---- windows stay too

module _ (n : List ℕ) (g : HeldIndex → HeldIndex)
    (name : (i : HeldIndex) → (g i).name ≡ i.name) (same : (i : HeldIndex) → window (g i) ≡ window i)
    (form : (i : HeldIndex) → form_of (g i) ≡ form_of i) where
  windows_stay : (is : List HeldIndex) (m : List ℕ) → WindowAt (facts_named m is) (facts_named m (updated facts_name n g is))
  windows_stay is m = by_test (bytes_eq n m) refl
    where
      by_found : (o : Option HeldIndex) → option_map window (option_map g o) ≡ option_map window o
      by_found None = refl
      by_found (Some i) = ap (λ (w : Window). Some w) (same i)

      by_test : (b : Bool) → bytes_eq n m ≡ b → WindowAt (facts_named m is) (facts_named m (updated facts_name n g is))
      by_test true here =
          subst (λ k. WindowAt (facts_named k is) (facts_named k (updated facts_name n g is))) ((bytes_eq-Decides n m).0 here)
          (at_of (facts_named n is) (facts_named n (updated facts_name n g is)) (ap (option_map window) (named_updated_here facts_name n g is name) ∙ by_found (facts_named n is)))
      by_test false other = at_of (facts_named m is) (facts_named m (updated facts_name n g is)) (ap (option_map window) (named_updated facts_name n m g is name other))

  pub changed_sound : (f : PlainFacts) → ((i : HeldIndex) → facts_named n f.indices ≡ Some i → IsHeld f i → IsHeld f (g i)) →
      ((by : Interval) (rises : Bool) (i : HeldIndex) → IsTaskOf by rises (Some i) → IsTaskOf by rises (Some (g i))) →
      AreFactsSound f → AreFactsSound (record f { indices = updated facts_name n g f.indices })
  changed_sound f held task sound =
      changed_facts n g name form f held task
      (same_streams f.indices (updated facts_name n g f.indices) (windows_stay f.indices) f (record f { indices = updated facts_name n g f.indices }) refl refl refl f.streams sound.streams) sound
