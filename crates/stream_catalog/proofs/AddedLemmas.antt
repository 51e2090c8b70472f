-- Facts stay sound with one index more.
use Rattle.std.specs.Prelude.{◌≡◌, ℕ, suc, ◌+◌, ◌≤◌, ◌<◌, Bool, true, false, List, [], ◌∷◌, ◌++◌, map, length, Option, Some, None, if◌then◌else◌, bytes_eq}
use Rattle.std.specs.Option.{option_map}
use Rattle.std.proofs.Common.{refl, ap, ◌∙◌, sym, subst, arith}
use Rattle.std.proofs.lemmas.Slice.Eq.{bytes_eq-Decides}
use Rattle.row_cells.specs.Each.{Each}
use Rattle.row_cells.specs.EachLaws.{Each-weaker, Each-both}
use Rattle.stream_catalog.specs.declared.facts.HeldIndex.{HeldIndex}
use Rattle.stream_catalog.specs.declared.facts.TaskFacts.{TaskFacts}
use Rattle.stream_catalog.specs.Plain.{PlainFacts}
use Rattle.stream_catalog.specs.Lists.{inserted, facts_name, facts_named}
use Rattle.stream_catalog.specs.Names.{names_of, is_taken}
use Rattle.stream_catalog.specs.Sound.{times, AreOnce, Form, form_of, template_form, Agrees, IsHeld, IsTaskOf, AreFactsSound}
use Rattle.stream_catalog.proofs.NamedLemmas.{each_inserted, named_inserted}
use Rattle.stream_catalog.proofs.CountLemmas.{times-append, times-none, times-inserted, some_named, apart_of, ascend_inserted, length-inserted}
use Rattle.stream_catalog.proofs.FactLemmas.{WindowAt, same_streams, window}

-- ---- names

pub in_three : (n : List ℕ) (xs ys zs : List (List ℕ)) → times n (xs ++ ys ++ zs) ≡ times n xs + times n ys + times n zs
in_three n xs ys zs = times-append n (xs ++ ys) zs ∙ ap (λ k. k + times n zs) (times-append n xs ys)

-- a new name among the second of three lists
once_more : (x : List ℕ) (xs ys more zs : List (List ℕ)) → ((n : List ℕ) → times n more ≡ times n (x ∷ ys)) → times x (xs ++ ys ++ zs) ≡ 0 → AreOnce (xs ++ ys ++ zs) → AreOnce (xs ++ more ++ zs)
once_more x xs ys more zs grown none once n = by_test (bytes_eq x n) refl
  where
    by_test : (b : Bool) → bytes_eq x n ≡ b → times n (xs ++ more ++ zs) ≤ 1
    by_test true here =
        let is = (bytes_eq-Decides x n).0 here in
        let zero_before : times n (xs ++ ys ++ zs) ≡ 0 = subst (λ m. times m (xs ++ ys ++ zs) ≡ 0) is none in
        let one : times n more ≡ suc (times n ys) = grown n ∙ ap (λ b. if b then suc (times n ys) else times n ys) here in
        let before = in_three n xs ys zs in
        let after = in_three n xs more zs in
        omega (arith, zero_before, one, before, after)
    by_test false other =
        let same : times n more ≡ times n ys = grown n ∙ ap (λ b. if b then suc (times n ys) else times n ys) other in
        let before = in_three n xs ys zs in
        let after = in_three n xs more zs in
        let was = once n in
        omega (arith, same, before, after, was)

-- ---- forms

pub each_map : {A B : Type 0} (f : A → B) (P : B → Type 0) (xs : List A) → Each (λ x. P (f x)) xs → Each P (map f xs)
each_map f P [] each = tt
each_map f P (x ∷ xs) each = (each.0, each_map f P xs each.1)

pub each_of_map : {A B : Type 0} (f : A → B) (P : B → Type 0) (xs : List A) → Each P (map f xs) → Each (λ x. P (f x)) xs
each_of_map f P [] each = tt
each_of_map f P (x ∷ xs) each = (each.0, each_of_map f P xs each.1)

pub forms_each : (P : Form → Type 0) (j : HeldIndex) (is : List HeldIndex) → P (form_of j) → Each P (map form_of is) → Each P (map form_of (inserted facts_name j is))
forms_each P j is here each = each_map form_of P (inserted facts_name j is) (each_inserted facts_name (λ i. P (form_of i)) j is here (each_of_map form_of P is each))

-- the form of a new index goes with what is there
pub record Suits (f : PlainFacts) (form : Form) : Type 0 where
  pub itself : Agrees form form
  pub others : Each (Agrees form) (map form_of f.indices)
  pub by_others : Each (λ other. Agrees other form) (map form_of f.indices)
  pub templates : Each (Agrees form) (map template_form f.templates)

-- ---- look-ups

pub still_there : (j : HeldIndex) (is : List HeldIndex) → times j.name (map facts_name is) ≡ 0 → (m : List ℕ) (i : HeldIndex) → facts_named m is ≡ Some i → facts_named m (inserted facts_name j is) ≡ Some i
still_there j is none m i found =
    named_inserted facts_name m j is (apart_of j.name m (map facts_name is) none (some_named facts_name m is i found)) ∙ found

windows_there : (j : HeldIndex) (is : List HeldIndex) → times j.name (map facts_name is) ≡ 0 → (m : List ℕ) → WindowAt (facts_named m is) (facts_named m (inserted facts_name j is))
windows_there j is none m = by_found (facts_named m is) refl
  where
    by_found : (o : Option HeldIndex) → facts_named m is ≡ o → WindowAt o (facts_named m (inserted facts_name j is))
    by_found None found = tt
    by_found (Some i) found = ap (option_map window) (still_there j is none m i found)

task_there : (j : HeldIndex) (is : List HeldIndex) → times j.name (map facts_name is) ≡ 0 → (t : TaskFacts) → IsTaskOf t.by t.rises (facts_named t.index is) → IsTaskOf t.by t.rises (facts_named t.index (inserted facts_name j is))
task_there j is none t holds = by_found (facts_named t.index is) refl holds
  where
    by_found : (o : Option HeldIndex) → facts_named t.index is ≡ o → IsTaskOf t.by t.rises o → IsTaskOf t.by t.rises (facts_named t.index (inserted facts_name j is))
    by_found None found holds = absurd holds
    by_found (Some i) found holds = subst (IsTaskOf t.by t.rises) (sym (still_there j is none t.index i found)) holds

-- a name that isn't taken is that of no index
pub alone_of : (f : PlainFacts) (n : List ℕ) → is_taken n f ≡ false → times n (map facts_name f.indices) ≡ 0
alone_of f n free =
    let streams = map (λ s. s.facts.name) f.streams in
    let names = map facts_name f.indices in
    let targets = map (λ t. t.target) f.tasks in
    let none : times n (streams ++ names ++ targets) ≡ 0 = times-none n (names_of f) free in
    let parts = in_three n streams names targets in
    omega (arith, none, parts)

-- ---- one index more

pub added_sound : (f : PlainFacts) (j : HeldIndex) → is_taken j.name f ≡ false → IsHeld f j → Suits f (form_of j) → length f.indices < 10000 → AreFactsSound f → AreFactsSound (record f { indices = inserted facts_name j f.indices })
added_sound f j free held suits room sound =
    let new = record f { indices = inserted facts_name j f.indices } in
    let streams = map (λ s. s.facts.name) f.streams in
    let names = map facts_name f.indices in
    let targets = map (λ t. t.target) f.tasks in
    let none : times j.name (streams ++ names ++ targets) ≡ 0 = times-none j.name (names_of f) free in
    let parts = in_three j.name streams names targets in
    let alone : times j.name names ≡ 0 = omega (arith, none, parts) in
    record {
      templates = sound.templates;
      indices = Each-weaker (IsHeld f) (IsHeld new) (λ i is. record { begins = is.begins; ends = is.ends; some = is.some; mapping = is.mapping; kind = is.kind; template = is.template }) (inserted facts_name j f.indices)
          (each_inserted facts_name (IsHeld f) j f.indices held sound.indices);
      streams = same_streams f.indices (inserted facts_name j f.indices) (windows_there j f.indices alone) f new refl refl refl f.streams sound.streams;
      tasks = Each-weaker (λ t. IsTaskOf t.by t.rises (facts_named t.index f.indices)) (λ t. IsTaskOf t.by t.rises (facts_named t.index (inserted facts_name j f.indices))) (λ t holds. task_there j f.indices alone t holds) f.tasks sound.tasks;
      indices_agree = forms_each (λ a. Each (Agrees a) (map form_of (inserted facts_name j f.indices))) j f.indices
          (forms_each (Agrees (form_of j)) j f.indices suits.itself suits.others)
          (Each-both (λ a. Each (Agrees a) (map form_of f.indices)) (λ a. Agrees a (form_of j)) (λ a. Each (Agrees a) (map form_of (inserted facts_name j f.indices)))
          (λ a others one. forms_each (Agrees a) j f.indices one others) (map form_of f.indices) sound.indices_agree suits.by_others);
      templates_agree = forms_each (λ a. Each (Agrees a) (map template_form f.templates)) j f.indices suits.templates sound.templates_agree;
      template_order = sound.template_order;
      stream_order = sound.stream_order;
      index_order = ascend_inserted facts_name j f.indices sound.index_order alone;
      names_once = once_more j.name streams names (map facts_name (inserted facts_name j f.indices)) targets (λ n. times-inserted facts_name n j f.indices) none sound.names_once;
      members_once = sound.members_once;
      tasks_once = sound.tasks_once;
      few_templates = sound.few_templates;
      few_streams = sound.few_streams;
      few_indices = let more = length-inserted facts_name j f.indices in omega (arith, more, room);
    }
