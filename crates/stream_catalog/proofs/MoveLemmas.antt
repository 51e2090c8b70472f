-- A catalogue whose members are moved stays sound.
use Rattle.std.specs.Prelude.{◌≡◌, ℕ, ℤ, ◌≤◌, ◌<◌, ◌≤ℤ◌, ◌<ℤ◌, ◌&&◌, ◌||◌, Bool, not, true, false, int_lt, List, [], ◌∷◌, ◌++◌, map, filter, length, Option, Some, None, if◌then◌else◌, bytes_eq}
use Rattle.std.specs.Int.Signed.{lt_z_yes, lt_z_no}
use Rattle.std.specs.List.{list_any}
use Rattle.std.specs.Option.{option_map}
use Rattle.std.proofs.Common.{refl, ap, ◌∙◌, sym, subst, arith, T}
use Rattle.std.proofs.lemmas.Bool.{not-false}
use Rattle.std.proofs.lemmas.Int.{ints}
use Rattle.std.proofs.lemmas.Slice.Eq.{bytes_eq-Decides}
use Rattle.row_cells.specs.Each.{Each}
use Rattle.row_cells.specs.EachLaws.{Each-weaker, Each-filter}
use Rattle.downsample_fold.specs.Laws.{KeysAscend}
use Rattle.stream_catalog.specs.declared.answers.Refusal.{Refusal}
use Rattle.stream_catalog.specs.declared.answers.Refusal.TheVariants.{NoSuchName, IsWriteIndex, NotMember, IsMember, OtherMapping, BadWindow}
use Rattle.stream_catalog.specs.declared.answers.Move.{Move}
use Rattle.stream_catalog.specs.declared.answers.Move.TheVariants.{Remove, Add}
use Rattle.stream_catalog.specs.declared.facts.HeldIndex.{HeldIndex}
use Rattle.stream_catalog.specs.declared.facts.TaskFacts.{TaskFacts}
use Rattle.stream_catalog.specs.Plain.{PlainStream, PlainFacts, facts_of}
use Rattle.stream_catalog.specs.Lists.{when, on_found, with_found, first_refusal, updated, stream_name, facts_name, stream_named, facts_named, index_named}
use Rattle.stream_catalog.specs.Streams.{has_member, is_write}
use Rattle.stream_catalog.specs.Indices.{without_member, task_index}
use Rattle.stream_catalog.specs.Moves.{overlap, meets_member, ends_late, is_bad_window, remove_refusal, stream_of, add_refusal, move_refusal, insert_member, with_member, removed, added_member, moved, moves_refusal, moved_by}
use Rattle.stream_catalog.specs.Laws.{MovesKeepSound}
use Rattle.stream_catalog.specs.Sound.{times, AreOnce, IsHeld, IsMemberOf, EndsBefore, WindowsFollow, IsStreamSound, IsTaskOf, IsUnderWay, AreFactsSound}
use Rattle.stream_catalog.proofs.NamedLemmas.{none_not_some, none_found, some_is, each_found, each_updated, found_name, names_updated}
use Rattle.stream_catalog.proofs.CountLemmas.{times-append, times-none, times-filter, length-updated}
use Rattle.stream_catalog.proofs.AddedLemmas.{in_three}
use Rattle.stream_catalog.proofs.FoldedLemmas.{none_first, none_when, none_map}
use Rattle.stream_catalog.proofs.GoneLemmas.{all_members}
use Rattle.stream_catalog.proofs.KeptLemmas.{times-kept, HaveTime, have_time, shorter_stream, task_target}
use Rattle.stream_catalog.proofs.NewLemmas.{once_grown}
use Rattle.stream_catalog.proofs.StreamLemmas.{other_streams}
use Rattle.stream_catalog.proofs.TemplateLemmas.{neither}

-- ---- facts with fewer tasks

fewer_tasks : (f : PlainFacts) (kept : TaskFacts → Bool) → AreFactsSound f → AreFactsSound (record f { tasks = filter kept f.tasks })
fewer_tasks f kept sound =
    let new = record f { tasks = filter kept f.tasks } in
    record {
      templates = sound.templates;
      indices = Each-weaker (IsHeld f) (IsHeld new) (λ i is. record { begins = is.begins; ends = is.ends; some = is.some; mapping = is.mapping; kind = is.kind; template = is.template }) f.indices sound.indices;
      streams = Each-weaker (IsStreamSound f) (IsStreamSound new) (λ s is. record { generation = is.generation; life = is.life; template = is.template; some = is.some; members = is.members; windows = is.windows }) f.streams sound.streams;
      tasks = Each-filter (λ t. IsTaskOf t.by t.rises (facts_named t.index f.indices)) kept f.tasks sound.tasks;
      indices_agree = sound.indices_agree;
      templates_agree = sound.templates_agree;
      template_order = sound.template_order;
      stream_order = sound.stream_order;
      index_order = sound.index_order;
      names_once = λ n.
          let was = sound.names_once n in
          let before = in_three n (map stream_name f.streams) (map facts_name f.indices) (map task_target f.tasks) in
          let after = in_three n (map stream_name f.streams) (map facts_name f.indices) (map task_target (filter kept f.tasks)) in
          let less = times-filter task_target kept n f.tasks in
          omega (arith, was, before, after, less);
      members_once = sound.members_once;
      tasks_once = λ n. let was = sound.tasks_once n in let less = times-filter task_index kept n f.tasks in omega (arith, was, less);
      few_templates = sound.few_templates;
      few_streams = sound.few_streams;
      few_indices = sound.few_indices;
    }

-- ---- a member taken out

members-removed : (name index n : List ℕ) (ss : List PlainStream) → times n (all_members (updated stream_name name (without_member index) ss)) ≤ times n (all_members ss)
members-removed name index n [] = omega arith
members-removed name index n (s ∷ ss) = by_test (bytes_eq s.facts.name name) (members-removed name index n ss)
  where
    by_test : (b : Bool) → times n (all_members (updated stream_name name (without_member index) ss)) ≤ times n (all_members ss)
        → times n (all_members (if b then without_member index s ∷ ss else s ∷ updated stream_name name (without_member index) ss)) ≤ times n (s.facts.members ++ all_members ss)
    by_test true later =
        let less = times-kept (λ m. not (bytes_eq m index)) n s.facts.members in
        let some = times-append n (filter (λ m. not (bytes_eq m index)) s.facts.members) (all_members ss) in
        let all = times-append n s.facts.members (all_members ss) in
        omega (arith, less, some, all)
    by_test false later =
        let some = times-append n s.facts.members (all_members (updated stream_name name (without_member index) ss)) in
        let all = times-append n s.facts.members (all_members ss) in
        omega (arith, later, some, all)

removed-sound : (f : PlainFacts) (stream index : List ℕ) → remove_refusal f stream index ≡ None → AreFactsSound f → AreFactsSound (removed f stream index)
removed-sound f stream index none sound = by_found (stream_named stream f.streams) refl none
  where
    by_found : (o : Option PlainStream) → stream_named stream f.streams ≡ o
        → on_found o (NoSuchName stream) (λ s. first_refusal (when (not (has_member s index)) (NotMember stream index) ∷ when (is_write s index) (IsWriteIndex stream index) ∷ [])) ≡ None
        → AreFactsSound (removed f stream index)
    by_found None found none = absurd (none_not_some (sym none))
    by_found (Some s) found none =
        let second : List (Option Refusal) = when (is_write s index) (IsWriteIndex stream index) ∷ [] in
        let one = none_first (when (not (has_member s index)) (NotMember stream index)) second none in
        let two = none_first (when (is_write s index) (IsWriteIndex stream index)) [] one.1 in
        let other = none_when (is_write s index) (IsWriteIndex stream index) two.0 in
        let ss = updated stream_name stream (without_member index) f.streams in
        let names : map stream_name ss ≡ map stream_name f.streams = names_updated stream_name stream (without_member index) f.streams (λ z. refl) in
        let shorter = shorter_stream f index s (have_time f sound.indices) other (each_found stream_name (IsStreamSound f) stream f.streams s found sound.streams) in
        fewer_tasks (record f { streams = ss }) (λ t. not (bytes_eq (task_index t) index))
        (other_streams f ss
        (each_updated stream_name (IsStreamSound f) stream (without_member index) f.streams (λ z z_found. subst (λ y. IsStreamSound f (without_member index y)) (some_is (sym found ∙ z_found)) shorter) sound.streams)
        (subst KeysAscend (sym names) sound.stream_order)
        (subst (λ ns. AreOnce (ns ++ map (λ i. i.name) f.indices ++ map (λ t. t.target) f.tasks)) (sym names) sound.names_once)
        (λ n. let was = sound.members_once n in let less = members-removed stream index n f.streams in omega (arith, was, less))
        (subst (λ k. k ≤ 1000) (sym (length-updated stream_name stream (without_member index) f.streams)) sound.few_streams)
        sound)

-- ---- where a window goes that meets no other

int_less : (a b : ℤ) → int_lt a b ≡ true → a <ℤ b
int_less a b is = lt_z_yes {a = a} {b = b} (subst T (sym is) tt)

int_above : (a b : ℤ) → int_lt a b ≡ false → b ≤ℤ a
int_above a b is = lt_z_no {a = a} {b = b} (subst (λ t. T (not t)) (sym is) tt)

crossed : (a b c : ℤ) → a ≤ℤ b → b <ℤ c → c ≤ℤ a → ⊥
crossed a b c first second third = omega (arith, ints, first, second, third)

less_chain : (a b c : ℤ) → a <ℤ b → b <ℤ c → a <ℤ c
less_chain a b c first second = omega (arith, ints, first, second)

upto : (a b : ℤ) → a <ℤ b → a ≤ℤ b
upto a b less = omega (arith, ints, less)

before : (i j : HeldIndex) → j.start <ℤ j.end → int_lt i.start j.start ≡ true → overlap i j ≡ false → i.end ≤ℤ j.start
before i j some first apart = by_tests (int_lt i.start j.end) (int_lt j.start i.end) refl refl apart
  where
    by_tests : (a b : Bool) → int_lt i.start j.end ≡ a → int_lt j.start i.end ≡ b → (a && b) ≡ false → i.end ≤ℤ j.start
    by_tests a false is_a is_b apart = int_above j.start i.end is_b
    by_tests true true is_a is_b apart = cc
    by_tests false true is_a is_b apart = absurd (crossed i.start j.start j.end (upto i.start j.start (int_less i.start j.start first)) some (int_above i.start j.end is_a))

behind : (i j : HeldIndex) → i.start <ℤ i.end → int_lt i.start j.start ≡ false → overlap i j ≡ false → j.end ≤ℤ i.start
behind i j some first apart = by_tests (int_lt i.start j.end) (int_lt j.start i.end) refl refl apart
  where
    by_tests : (a b : Bool) → int_lt i.start j.end ≡ a → int_lt j.start i.end ≡ b → (a && b) ≡ false → j.end ≤ℤ i.start
    by_tests false b is_a is_b apart = int_above i.start j.end is_a
    by_tests true true is_a is_b apart = cc
    by_tests true false is_a is_b apart = absurd (crossed j.start i.start i.end (int_above i.start j.start first) some (int_above j.start i.end is_b))

module _ (is : List HeldIndex) (time : HaveTime is) (i : HeldIndex) (here : facts_named i.name is ≡ Some i) (some : i.start <ℤ i.end) where
  abbrev look : List ℕ → Option HeldIndex
  look m = facts_named m is

  -- behind a member that ends before the new window begins
  insert_behind : (p : List ℕ) (ms : List (List ℕ)) → EndsBefore (look p) (Some i) → WindowsFollow (map look (p ∷ ms)) → Each (λ m. meets_member is i m ≡ false) ms → WindowsFollow (map look (p ∷ insert_member is i ms))
  insert_behind p [] ends follow apart = (subst (EndsBefore (look p)) (sym here) ends, tt)
  insert_behind p (m ∷ ms) ends follow apart = by_found (look m) refl apart.0 follow.0 (λ later. insert_behind m ms later follow.1 apart.1)
    where
      by_found : (o : Option HeldIndex) → look m ≡ o → with_found o false (overlap i) ≡ false → EndsBefore (look p) (look m) → (EndsBefore (look m) (Some i) → WindowsFollow (map look (m ∷ insert_member is i ms)))
          → WindowsFollow (map look (p ∷ (if with_found o false (λ j. int_lt i.start j.start) then i.name ∷ m ∷ ms else m ∷ insert_member is i ms)))
      by_found None there apart before_m later = absurd (nothing (look p) (subst (EndsBefore (look p)) there before_m))
        where
          nothing : (q : Option HeldIndex) → EndsBefore q None → ⊥
          nothing None is = is
          nothing (Some j) is = is
      by_found (Some j) there apart before_m later = by_test (int_lt i.start j.start) refl
        where
          by_test : (b : Bool) → int_lt i.start j.start ≡ b → WindowsFollow (map look (p ∷ (if b then i.name ∷ m ∷ ms else m ∷ insert_member is i ms)))
          by_test true first = (subst (EndsBefore (look p)) (sym here) ends, (subst (λ o. EndsBefore o (look m)) (sym here) (subst (EndsBefore (Some i)) (sym there) (before i j (time m j there) first apart)), follow.1))
          by_test false first = (before_m, later (subst (λ o. EndsBefore o (Some i)) (sym there) (behind i j some first apart)))

  pub follow_insert : (template : List ℕ) (ms : List (List ℕ)) → Each (λ m. IsMemberOf template (look m)) ms → WindowsFollow (map look ms) → Each (λ m. meets_member is i m ≡ false) ms → WindowsFollow (map look (insert_member is i ms))
  follow_insert template [] members follow apart = tt
  follow_insert template (m ∷ ms) members follow apart = by_found (look m) refl members.0 apart.0
    where
      by_found : (o : Option HeldIndex) → look m ≡ o → IsMemberOf template o → with_found o false (overlap i) ≡ false → WindowsFollow (map look (if with_found o false (λ j. int_lt i.start j.start) then i.name ∷ m ∷ ms else m ∷ insert_member is i ms))
      by_found None there member apart_m = absurd member
      by_found (Some j) there member apart_m = by_test (int_lt i.start j.start) refl
        where
          by_test : (b : Bool) → int_lt i.start j.start ≡ b → WindowsFollow (map look (if b then i.name ∷ m ∷ ms else m ∷ insert_member is i ms))
          by_test true first = (subst (λ o. EndsBefore o (look m)) (sym here) (subst (EndsBefore (Some i)) (sym there) (before i j (time m j there) first apart_m)), follow)
          by_test false first = insert_behind m ms (subst (λ o. EndsBefore o (Some i)) (sym there) (behind i j some first apart_m)) follow apart.1

-- ---- a member put among others

module _ (is : List HeldIndex) (i : HeldIndex) where
  insert_each : (P : List ℕ → Type 0) (ms : List (List ℕ)) → P i.name → Each P ms → Each P (insert_member is i ms)
  insert_each P [] here each = (here, tt)
  insert_each P (m ∷ ms) here each = by_test (with_found (facts_named m is) false (λ j. int_lt i.start j.start)) (insert_each P ms here each.1)
    where
      by_test : (b : Bool) → Each P (insert_member is i ms) → Each P (if b then i.name ∷ m ∷ ms else m ∷ insert_member is i ms)
      by_test true later = (here, each)
      by_test false later = (each.0, later)

  insert_some : (ms : List (List ℕ)) → 0 < length (insert_member is i ms)
  insert_some [] = omega arith
  insert_some (m ∷ ms) = by_test (with_found (facts_named m is) false (λ j. int_lt i.start j.start))
    where
      by_test : (b : Bool) → 0 < length (if b then i.name ∷ m ∷ ms else m ∷ insert_member is i ms)
      by_test true = omega arith
      by_test false = omega arith

  insert_times : (n : List ℕ) (ms : List (List ℕ)) → times n (insert_member is i ms) ≡ times n (i.name ∷ ms)
  insert_times n [] = refl
  insert_times n (m ∷ ms) = by_test (with_found (facts_named m is) false (λ j. int_lt i.start j.start)) (insert_times n ms)
    where
      by_test : (b : Bool) → times n (insert_member is i ms) ≡ times n (i.name ∷ ms) → times n (if b then i.name ∷ m ∷ ms else m ∷ insert_member is i ms) ≡ times n (i.name ∷ m ∷ ms)
      by_test true later = refl
      by_test false later =
          let a = times-append n (m ∷ []) (insert_member is i ms) in
          let b = times-append n (m ∷ []) ms in
          let c = times-append n (i.name ∷ []) ms in
          let d = times-append n (i.name ∷ []) (m ∷ ms) in
          omega (arith, later, a, b, c, d)

  members-added : (name n : List ℕ) (s : PlainStream) (ss : List PlainStream) → stream_named name ss ≡ Some s → times n (all_members (updated stream_name name (with_member is i) ss)) ≡ times n (i.name ∷ all_members ss)
  members-added name n s [] found = absurd (none_not_some found)
  members-added name n s (x ∷ xs) found = by_test (bytes_eq x.facts.name name) found (members-added name n s xs)
    where
      by_test : (b : Bool) → (if b then Some x else stream_named name xs) ≡ Some s
          → (stream_named name xs ≡ Some s → times n (all_members (updated stream_name name (with_member is i) xs)) ≡ times n (i.name ∷ all_members xs))
          → times n (all_members (if b then with_member is i x ∷ xs else x ∷ updated stream_name name (with_member is i) xs)) ≡ times n (i.name ∷ (x.facts.members ++ all_members xs))
      by_test true found later =
          let put = insert_times n x.facts.members in
          let a = times-append n (insert_member is i x.facts.members) (all_members xs) in
          let b = times-append n (i.name ∷ []) x.facts.members in
          let c = times-append n x.facts.members (all_members xs) in
          let d = times-append n (i.name ∷ []) (x.facts.members ++ all_members xs) in
          omega (arith, put, a, b, c, d)
      by_test false found later =
          let less = later found in
          let a = times-append n x.facts.members (all_members (updated stream_name name (with_member is i) xs)) in
          let b = times-append n (i.name ∷ []) (x.facts.members ++ all_members xs) in
          let c = times-append n (i.name ∷ []) (all_members xs) in
          let d = times-append n x.facts.members (all_members xs) in
          omega (arith, less, a, b, c, d)

-- an index that no stream has
no_stream : (n : List ℕ) (ss : List PlainStream) → Each (λ s. has_member s n ≡ false) ss → times n (all_members ss) ≡ 0
no_stream n [] each = refl
no_stream n (s ∷ ss) each =
    let here = times-none n s.facts.members each.0 in
    let later = no_stream n ss each.1 in
    let both = times-append n s.facts.members (all_members ss) in
    omega (arith, here, later, both)

neither_test : (a b : Bool) → (a || b) ≡ false → (a ≡ false) × (b ≡ false)
neither_test true b none = cc
neither_test false b none = (refl, none)

none_meet : (is : List HeldIndex) (i : HeldIndex) (ms : List (List ℕ)) → list_any (meets_member is i) ms ≡ false → Each (λ m. meets_member is i m ≡ false) ms
none_meet is i [] none = tt
none_meet is i (m ∷ ms) none = let both = neither_test (meets_member is i m) (list_any (meets_member is i) ms) none in (both.0, none_meet is i ms both.1)

abbrev add_tests : PlainFacts → List ℕ → List ℕ → PlainStream → HeldIndex → List (Option Refusal)
add_tests f stream index s i =
    option_map (λ other. IsMember other.facts.name index) (stream_of f index)
    ∷ when (not (bytes_eq i.template s.facts.template)) (OtherMapping stream index)
    ∷ when (is_bad_window f.indices i s) (BadWindow stream index) ∷ []

with_member-sound : (f : PlainFacts) (stream index : List ℕ) (s : PlainStream) (i : HeldIndex) → stream_named stream f.streams ≡ Some s → facts_named index f.indices ≡ Some i → first_refusal (add_tests f stream index s i) ≡ None →
    AreFactsSound f → AreFactsSound (record f { streams = updated stream_name stream (with_member f.indices i) f.streams })
with_member-sound f stream index s i found there none sound =
    let third : List (Option Refusal) = when (is_bad_window f.indices i s) (BadWindow stream index) ∷ [] in
    let second : List (Option Refusal) = when (not (bytes_eq i.template s.facts.template)) (OtherMapping stream index) ∷ third in
    let one = none_first (option_map (λ (other : PlainStream). IsMember other.facts.name index) (stream_of f index)) second none in
    let two = none_first (when (not (bytes_eq i.template s.facts.template)) (OtherMapping stream index)) third one.1 in
    let three = none_first (when (is_bad_window f.indices i s) (BadWindow stream index)) [] two.1 in
    let alone = none_found (λ (z : PlainStream). has_member z index) f.streams (none_map (λ (other : PlainStream). IsMember other.facts.name index) (stream_of f index) one.0) in
    let template : i.template ≡ s.facts.template = (bytes_eq-Decides i.template s.facts.template).0 (not-false (bytes_eq i.template s.facts.template) (none_when (not (bytes_eq i.template s.facts.template)) (OtherMapping stream index) two.0)) in
    let fits = neither_test (list_any (meets_member f.indices i) s.facts.members) (ends_late f.indices i s) (none_when (is_bad_window f.indices i s) (BadWindow stream index) three.0) in
    let name_is : i.name ≡ index = (bytes_eq-Decides i.name index).0 (found_name facts_name index f.indices i there) in
    let here : facts_named i.name f.indices ≡ Some i = ap (λ n. facts_named n f.indices) name_is ∙ there in
    let time = have_time f sound.indices in
    let was = each_found stream_name (IsStreamSound f) stream f.streams s found sound.streams in
    let next : IsStreamSound f (with_member f.indices i s) = record {
      generation = was.generation;
      life = was.life;
      template = was.template;
      some = insert_some f.indices i s.facts.members;
      members = insert_each f.indices i (λ m. IsMemberOf s.facts.template (facts_named m f.indices)) s.facts.members (subst (IsMemberOf s.facts.template) (sym here) template) was.members;
      windows = follow_insert f.indices time i here (time index i there) s.facts.template s.facts.members was.members was.windows (none_meet f.indices i s.facts.members fits.0);
    } in
    let ss = updated stream_name stream (with_member f.indices i) f.streams in
    let names : map stream_name ss ≡ map stream_name f.streams = names_updated stream_name stream (with_member f.indices i) f.streams (λ z. refl) in
    other_streams f ss
    (each_updated stream_name (IsStreamSound f) stream (with_member f.indices i) f.streams (λ z z_found. subst (λ y. IsStreamSound f (with_member f.indices i y)) (some_is (sym found ∙ z_found)) next) sound.streams)
    (subst KeysAscend (sym names) sound.stream_order)
    (subst (λ ns. AreOnce (ns ++ map (λ j. j.name) f.indices ++ map (λ t. t.target) f.tasks)) (sym names) sound.names_once)
    (once_grown i.name (all_members f.streams) (all_members ss) (λ n. members-added f.indices i stream n s f.streams found) (subst (λ n. times n (all_members f.streams) ≡ 0) (sym name_is) (no_stream index f.streams alone)) sound.members_once)
    (subst (λ k. k ≤ 1000) (sym (length-updated stream_name stream (with_member f.indices i) f.streams)) sound.few_streams)
    sound

added_member-sound : (f : PlainFacts) (stream index : List ℕ) → add_refusal f stream index ≡ None → AreFactsSound f → AreFactsSound (added_member f stream index)
added_member-sound f stream index none sound = by_stream (stream_named stream f.streams) refl none
  where
    by_index : (s : PlainStream) → stream_named stream f.streams ≡ Some s → (o : Option HeldIndex) → facts_named index f.indices ≡ o → on_found o (NoSuchName index) (λ i. first_refusal (add_tests f stream index s i)) ≡ None →
        AreFactsSound (with_found o f (λ i. record f { streams = updated stream_name stream (with_member f.indices i) f.streams }))
    by_index s found None there none = absurd (none_not_some (sym none))
    by_index s found (Some i) there none = with_member-sound f stream index s i found there none sound

    by_stream : (o : Option PlainStream) → stream_named stream f.streams ≡ o → on_found o (NoSuchName stream) (λ s. on_found (facts_named index f.indices) (NoSuchName index) (λ i. first_refusal (add_tests f stream index s i))) ≡ None →
        AreFactsSound (added_member f stream index)
    by_stream None found none = absurd (none_not_some (sym none))
    by_stream (Some s) found none = by_index s found (facts_named index f.indices) refl none

-- ---- many moves

moved-sound : (f : PlainFacts) (m : Move) → move_refusal f m ≡ None → AreFactsSound f → AreFactsSound (moved f m)
moved-sound f (Remove stream index) none sound = removed-sound f stream index none sound
moved-sound f (Add stream index) none sound = added_member-sound f stream index none sound

moved_by-sound : (f : PlainFacts) (ms : List Move) → moves_refusal f ms ≡ None → AreFactsSound f → AreFactsSound (moved_by f ms)
moved_by-sound f [] none sound = sound
moved_by-sound f (m ∷ ms) none sound =
    let both = neither (move_refusal f m) (moves_refusal (moved f m) ms) none in
    moved_by-sound (moved f m) ms both.1 (moved-sound f m both.0 sound)

-- moves leave templates and indices, and make no task
pub record OnlyMoved (f g : PlainFacts) : Type 1 where
  pub templates : g.templates ≡ f.templates
  pub indices : g.indices ≡ f.indices
  pub tasks : (P : TaskFacts → Type 0) → Each P f.tasks → Each P g.tasks

only_moved : (f : PlainFacts) (m : Move) → OnlyMoved f (moved f m)
only_moved f (Remove stream index) = record { templates = refl; indices = refl; tasks = λ P each. Each-filter P (λ t. not (bytes_eq (task_index t) index)) f.tasks each }
only_moved f (Add stream index) = by_found (facts_named index f.indices)
  where
    by_found : (o : Option HeldIndex) → OnlyMoved f (with_found o f (λ i. record f { streams = updated stream_name stream (with_member f.indices i) f.streams }))
    by_found None = record { templates = refl; indices = refl; tasks = λ P each. each }
    by_found (Some i) = record { templates = refl; indices = refl; tasks = λ P each. each }

all_moved : (f : PlainFacts) (ms : List Move) → OnlyMoved f (moved_by f ms)
all_moved f [] = record { templates = refl; indices = refl; tasks = λ P each. each }
all_moved f (m ∷ ms) =
    let here = only_moved f m in
    let later = all_moved (moved f m) ms in
    record { templates = later.templates ∙ here.templates; indices = later.indices ∙ here.indices; tasks = λ P each. later.tasks P (here.tasks P each) }

pub moves_keep_sound : MovesKeepSound
moves_keep_sound c ms sound none =
    let f = facts_of c in
    let g = moved_by f ms in
    let only = all_moved f ms in
    record {
      facts = subst (λ ts. AreFactsSound (record { templates = ts; streams = g.streams; indices = f.indices; tasks = g.tasks })) only.templates
          (subst (λ is. AreFactsSound (record { templates = g.templates; streams = g.streams; indices = is; tasks = g.tasks })) only.indices (moved_by-sound f ms none sound.facts));
      indices = sound.indices;
      tasks = only.tasks (λ t. IsUnderWay t.done (index_named t.index c.indices)) sound.tasks;
    }
