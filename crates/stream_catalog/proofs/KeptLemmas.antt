-- Facts that stay sound where indices, tasks and members are taken out.
use Rattle.std.specs.Prelude.{◌≡◌, ℕ, suc, ℤ, ◌≤◌, ◌<◌, ◌≤ℤ◌, ◌<ℤ◌, Bool, not, true, false, cond, List, [], ◌∷◌, map, filter, length, Option, Some, None, if◌then◌else◌, bytes_eq}
use Rattle.std.specs.List.{flat_map}
use Rattle.std.proofs.Common.{refl, ap, ◌∙◌, sym, subst, arith}
use Rattle.std.proofs.lemmas.Bool.{both_ways}
use Rattle.std.proofs.lemmas.Int.{ints}
use Rattle.std.proofs.lemmas.Slice.Eq.{bytes_eq-Decides}
use Rattle.row_cells.specs.Each.{Each}
use Rattle.row_cells.specs.EachLaws.{Each-weaker, Each-both, Each-filter}
use Rattle.downsample_fold.specs.Laws.{KeysAscend}
use Rattle.stream_catalog.specs.declared.facts.HeldIndex.{HeldIndex}
use Rattle.stream_catalog.specs.declared.facts.TaskFacts.{TaskFacts}
use Rattle.stream_catalog.specs.Plain.{PlainStream, PlainFacts}
use Rattle.stream_catalog.specs.Lists.{found_by, stream_name, facts_name, facts_named}
use Rattle.stream_catalog.specs.Streams.{last_of, is_write}
use Rattle.stream_catalog.specs.Indices.{without_member, task_index}
use Rattle.stream_catalog.specs.Lists.{with_found}
use Rattle.stream_catalog.specs.Sound.{times, Form, form_of, template_form, Agrees, IsHeld, IsMemberOf, EndsBefore, WindowsFollow, IsStreamSound, IsTaskOf, AreFactsSound}
use Rattle.stream_catalog.proofs.NamedLemmas.{cons_eq, each_found}
use Rattle.stream_catalog.proofs.CountLemmas.{times-filter, length-filter, ascend_filter}
use Rattle.stream_catalog.proofs.AddedLemmas.{each_map, each_of_map, in_three}

-- ---- what stays by its name

-- what passes a test
pub each_passes : {A : Type 0} (test : A → Bool) (xs : List A) → Each (λ x. test x ≡ true) (filter test xs)
each_passes test [] = tt
each_passes test (x ∷ xs) = by_test (test x) refl (each_passes test xs)
  where
    by_test : (b : Bool) → test x ≡ b → Each (λ y. test y ≡ true) (filter test xs) → Each (λ y. test y ≡ true) (cond b (x ∷ filter test xs) (filter test xs))
    by_test true is later = (is, later)
    by_test false is later = later

module _ {A : Type 0} (name : A → List ℕ) (stays : List ℕ → Bool) where
  -- look-ups of what stays
  pub named_kept : (n : List ℕ) (xs : List A) → stays n ≡ true → found_by name n (filter (λ x. stays (name x)) xs) ≡ found_by name n xs
  named_kept n [] kept = refl
  named_kept n (x ∷ xs) kept = by_tests (stays (name x)) (bytes_eq (name x) n) refl refl (named_kept n xs kept)
    where
      by_tests : (a b : Bool) → stays (name x) ≡ a → bytes_eq (name x) n ≡ b → found_by name n (filter (λ y. stays (name y)) xs) ≡ found_by name n xs
          → found_by name n (cond a (x ∷ filter (λ y. stays (name y)) xs) (filter (λ y. stays (name y)) xs)) ≡ (if b then Some x else found_by name n xs)
      by_tests true true is same later = rw same refl
      by_tests true false is same later = rw same later
      by_tests false true is same later = absurd (both_ways (stays (name x)) is (ap stays ((bytes_eq-Decides (name x) n).0 same) ∙ kept))
      by_tests false false is same later = later

-- ---- names counted among fewer

pub times-kept : (test : List ℕ → Bool) (n : List ℕ) (xs : List (List ℕ)) → times n (filter test xs) ≤ times n xs
times-kept test n [] = omega arith
times-kept test n (x ∷ xs) = by_test (test x) (times-kept test n xs)
  where
    grown : (b : Bool) (j k : ℕ) → j ≤ k → (if b then suc j else j) ≤ (if b then suc k else k)
    grown true j k le = omega (arith, le)
    grown false j k le = le

    more : (b : Bool) (j k : ℕ) → j ≤ k → j ≤ (if b then suc k else k)
    more true j k le = omega (arith, le)
    more false j k le = le

    by_test : (a : Bool) → times n (filter test xs) ≤ times n xs → times n (cond a (x ∷ filter test xs) (filter test xs)) ≤ (if bytes_eq x n then suc (times n xs) else times n xs)
    by_test true later = grown (bytes_eq x n) (times n (filter test xs)) (times n xs) later
    by_test false later = more (bytes_eq x n) (times n (filter test xs)) (times n xs) later

-- ---- windows of fewer members

int_chain : (a b c d : ℤ) → a ≤ℤ b → b <ℤ c → c ≤ℤ d → a ≤ℤ d
int_chain a b c d first some second = omega (arith, ints, first, some, second)

-- windows aren't empty
abbrev pub HaveTime : List HeldIndex → Type 0
HaveTime is = (m : List ℕ) (i : HeldIndex) → facts_named m is ≡ Some i → i.start <ℤ i.end

pub have_time : (f : PlainFacts) → Each (IsHeld f) f.indices → HaveTime f.indices
have_time f held m i found = (each_found facts_name (IsHeld f) m f.indices i found held).some

ends_chain : (a m b : Option HeldIndex) → ((i : HeldIndex) → m ≡ Some i → i.start <ℤ i.end) → EndsBefore a m → EndsBefore m b → EndsBefore a b
ends_chain None m b some first second = absurd first
ends_chain (Some a) None b some first second = absurd first
ends_chain (Some a) (Some m) None some first second = absurd second
ends_chain (Some a) (Some m) (Some b) some first second = int_chain a.end m.start m.end b.start first (some m refl) second

module _ (is : List HeldIndex) (some : HaveTime is) where
  abbrev look : List ℕ → Option HeldIndex
  look m = facts_named m is

  pub follows_tail : (m : List ℕ) (ms : List (List ℕ)) → WindowsFollow (map look (m ∷ ms)) → WindowsFollow (map look ms)
  follows_tail m [] follow = tt
  follows_tail m (k ∷ ks) follow = follow.1

  skip : (a m : List ℕ) (ms : List (List ℕ)) → WindowsFollow (map look (a ∷ m ∷ ms)) → WindowsFollow (map look (a ∷ ms))
  skip a m [] follow = tt
  skip a m (k ∷ ks) follow = let later : WindowsFollow (map look (m ∷ k ∷ ks)) = follow.1 in (ends_chain (look a) (look m) (look k) (some m) follow.0 later.0, later.1)

  module _ (test : List ℕ → Bool) where
    from_first : (a : List ℕ) (ms : List (List ℕ)) → WindowsFollow (map look (a ∷ ms)) → WindowsFollow (map look (a ∷ filter test ms))
    from_first a [] follow = tt
    from_first a (m ∷ ms) follow = by_test (test m) (from_first m ms follow.1) (from_first a ms (skip a m ms follow))
      where
        by_test : (b : Bool) → WindowsFollow (map look (m ∷ filter test ms)) → WindowsFollow (map look (a ∷ filter test ms)) → WindowsFollow (map look (a ∷ cond b (m ∷ filter test ms) (filter test ms)))
        by_test true here other = (follow.0, here)
        by_test false here other = other

    pub follow_kept : (ms : List (List ℕ)) → WindowsFollow (map look ms) → WindowsFollow (map look (filter test ms))
    follow_kept [] follow = tt
    follow_kept (m ∷ ms) follow = by_test (test m) (from_first m ms follow) (follow_kept ms (follows_tail m ms follow))
      where
        by_test : (b : Bool) → WindowsFollow (map look (m ∷ filter test ms)) → WindowsFollow (map look (filter test ms)) → WindowsFollow (map look (cond b (m ∷ filter test ms) (filter test ms)))
        by_test true here other = here
        by_test false here other = other

-- ---- a stream with a member less, which isn't its write index

pub last_kept : (n : List ℕ) (ms : List (List ℕ)) → 0 < length ms → bytes_eq (with_found (last_of ms) [] (λ k. k)) n ≡ false → 0 < length (filter (λ m. not (bytes_eq m n)) ms)
last_kept n [] some other = absurd (omega (arith, some))
last_kept n (m ∷ []) some other = by_test (bytes_eq m n) other
  where
    by_test : (b : Bool) → b ≡ false → 0 < length (cond (not b) (m ∷ []) [])
    by_test true is = cc
    by_test false is = omega arith
last_kept n (m ∷ k ∷ ms) some other = by_test (bytes_eq m n) (last_kept n (k ∷ ms) (omega arith) other)
  where
    by_test : (b : Bool) → 0 < length (filter (λ j. not (bytes_eq j n)) (k ∷ ms)) → 0 < length (cond (not b) (m ∷ filter (λ j. not (bytes_eq j n)) (k ∷ ms)) (filter (λ j. not (bytes_eq j n)) (k ∷ ms)))
    by_test true later = later
    by_test false later = omega arith

pub shorter_stream : (f : PlainFacts) (n : List ℕ) (s : PlainStream) → HaveTime f.indices → is_write s n ≡ false → IsStreamSound f s → IsStreamSound f (without_member n s)
shorter_stream f n s some other is = record {
  generation = is.generation;
  life = is.life;
  template = is.template;
  some = last_kept n s.facts.members is.some other;
  members = Each-filter (λ m. IsMemberOf s.facts.template (facts_named m f.indices)) (λ m. not (bytes_eq m n)) s.facts.members is.members;
  windows = follow_kept f.indices some (λ m. not (bytes_eq m n)) s.facts.members is.windows;
}

-- ---- a stream whose members all stay

-- the facts with fewer indices and tasks
abbrev pub fewer : PlainFacts → (List ℕ → Bool) → List PlainStream → (TaskFacts → Bool) → PlainFacts
fewer f stays ss kept = record f { streams = ss; indices = filter (λ i. stays i.name) f.indices; tasks = filter kept f.tasks }

module _ (is : List HeldIndex) (stays : List ℕ → Bool) where
  looked : (ms : List (List ℕ)) → Each (λ m. stays m ≡ true) ms → map (λ m. facts_named m (filter (λ i. stays i.name) is)) ms ≡ map (λ m. facts_named m is) ms
  looked [] each = refl
  looked (m ∷ ms) each = cons_eq (named_kept facts_name stays m is each.0) (looked ms each.1)

  members_kept : (template : List ℕ) (ms : List (List ℕ)) → Each (λ m. stays m ≡ true) ms → Each (λ m. IsMemberOf template (facts_named m is)) ms → Each (λ m. IsMemberOf template (facts_named m (filter (λ i. stays i.name) is))) ms
  members_kept template ms each members =
      Each-both (λ m. IsMemberOf template (facts_named m is)) (λ m. stays m ≡ true) (λ m. IsMemberOf template (facts_named m (filter (λ i. stays i.name) is)))
      (λ m member kept. subst (IsMemberOf template) (sym (named_kept facts_name stays m is kept)) member) ms members each

pub kept_stream : (f : PlainFacts) (stays : List ℕ → Bool) (ss : List PlainStream) (kept : TaskFacts → Bool) (s : PlainStream) → Each (λ m. stays m ≡ true) s.facts.members → IsStreamSound f s → IsStreamSound (fewer f stays ss kept) s
kept_stream f stays ss kept s each is = record {
  generation = is.generation;
  life = is.life;
  template = is.template;
  some = is.some;
  members = members_kept f.indices stays s.facts.template s.facts.members each is.members;
  windows = subst WindowsFollow (sym (looked f.indices stays s.facts.members each)) is.windows;
}

-- ---- facts

forms_kept : (P : Form → Type 0) (test : HeldIndex → Bool) (is : List HeldIndex) → Each P (map form_of is) → Each P (map form_of (filter test is))
forms_kept P test is each = each_map form_of P (filter test is) (Each-filter (λ i. P (form_of i)) test is (each_of_map form_of P is each))

abbrev pub task_target : TaskFacts → List ℕ
task_target t = t.target

-- the streams are no more, with no more members
pub record AreFewer (old new : List PlainStream) : Type 0 where
  pub ascend : KeysAscend (map stream_name new)
  pub names : (n : List ℕ) → times n (map stream_name new) ≤ times n (map stream_name old)
  pub members : (n : List ℕ) → times n (flat_map (λ s. s.facts.members) new) ≤ times n (flat_map (λ s. s.facts.members) old)
  pub few : length new ≤ length old

pub fewer_sound : (f : PlainFacts) (stays : List ℕ → Bool) (ss : List PlainStream) (kept : TaskFacts → Bool) →
    Each (IsStreamSound (fewer f stays ss kept)) ss → AreFewer f.streams ss → Each (λ t. stays t.index ≡ true) (filter kept f.tasks) → AreFactsSound f → AreFactsSound (fewer f stays ss kept)
fewer_sound f stays ss kept streams less left sound =
    let new = fewer f stays ss kept in
    let test : HeldIndex → Bool = λ i. stays i.name in
    let is = filter test f.indices in
    let ts = filter kept f.tasks in
    record {
      templates = sound.templates;
      indices = Each-weaker (IsHeld f) (IsHeld new) (λ i held. record { begins = held.begins; ends = held.ends; some = held.some; mapping = held.mapping; kind = held.kind; template = held.template }) is
          (Each-filter (IsHeld f) test f.indices sound.indices);
      streams = streams;
      tasks = Each-both (λ t. IsTaskOf t.by t.rises (facts_named t.index f.indices)) (λ t. stays t.index ≡ true) (λ t. IsTaskOf t.by t.rises (facts_named t.index is))
          (λ t holds stay. subst (IsTaskOf t.by t.rises) (sym (named_kept facts_name stays t.index f.indices stay)) holds) ts
          (Each-filter (λ t. IsTaskOf t.by t.rises (facts_named t.index f.indices)) kept f.tasks sound.tasks) left;
      indices_agree = forms_kept (λ a. Each (Agrees a) (map form_of is)) test f.indices
          (Each-weaker (λ a. Each (Agrees a) (map form_of f.indices)) (λ a. Each (Agrees a) (map form_of is)) (λ a all. forms_kept (Agrees a) test f.indices all) (map form_of f.indices) sound.indices_agree);
      templates_agree = forms_kept (λ a. Each (Agrees a) (map template_form f.templates)) test f.indices sound.templates_agree;
      template_order = sound.template_order;
      stream_order = less.ascend;
      index_order = ascend_filter facts_name test f.indices sound.index_order;
      names_once = λ n.
          let was = sound.names_once n in
          let before = in_three n (map stream_name f.streams) (map facts_name f.indices) (map task_target f.tasks) in
          let after = in_three n (map stream_name ss) (map facts_name is) (map task_target ts) in
          let fewer_streams = less.names n in
          let fewer_indices = times-filter facts_name test n f.indices in
          let fewer_tasks = times-filter task_target kept n f.tasks in
          omega (arith, was, before, after, fewer_streams, fewer_indices, fewer_tasks);
      members_once = λ n. let was = sound.members_once n in let now = less.members n in omega (arith, was, now);
      tasks_once = λ n. let was = sound.tasks_once n in let now = times-filter task_index kept n f.tasks in omega (arith, was, now);
      few_templates = sound.few_templates;
      few_streams = let was = sound.few_streams in let now = less.few in omega (arith, was, now);
      few_indices = let was = sound.few_indices in let now = length-filter facts_name test f.indices in omega (arith, was, now);
    }
