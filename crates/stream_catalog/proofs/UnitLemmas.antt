-- A unit keeps a catalogue sound.
use Rattle.std.specs.Prelude.{◌≡◌, ℕ, suc, ◌+◌, ◌==◌, ◌≤◌, ◌<◌, ◌⊎◌, Bool, not, List, [], ◌∷◌, ◌++◌, map, length, Option, Some, None, true, false, if◌then◌else◌, bytes_eq}
use Rattle.std.specs.List.{flat_map}
use Rattle.std.specs.Option.{option_map}
use Rattle.std.proofs.Common.{refl, ap, ◌∙◌, sym, subst, arith, inl, inr}
use Rattle.std.proofs.lemmas.List.{length-map}
use Rattle.std.proofs.lemmas.Bool.{both_ways, cases_lt}
use Rattle.std.proofs.lemmas.Bool.Decides.{Decides-eqb}
use Rattle.std.proofs.lemmas.Slice.Eq.{bytes_eq-Decides}
use Rattle.row_cells.specs.Each.{Each}
use Rattle.row_cells.specs.EachLaws.{Each-weaker, Each-both, Each-filter}
use Rattle.downsample_fold.specs.Laws.{series_of, KeysAscend}
use Rattle.stream_catalog.specs.declared.facts.HeldIndex.{HeldIndex}
use Rattle.stream_catalog.specs.declared.facts.TaskFacts.{TaskFacts}
use Rattle.stream_catalog.specs.Plain.{PlainIndex, PlainStream, PlainCatalog, PlainFacts, facts_of}
use Rattle.stream_catalog.specs.Ways.{plain_way}
use Rattle.stream_catalog.specs.Lists.{inserted, without, index_name, facts_name, stream_name, facts_named, index_named, template_named}
use Rattle.stream_catalog.specs.Indices.{folded_facts, folded_index}
use Rattle.stream_catalog.specs.Units.{renamed, with_renamed, swapped, next_done, advanced_at, unit_from, unit_of}
use Rattle.stream_catalog.specs.Laws.{UnitsKeepSound}
use Rattle.stream_catalog.specs.Sound.{times, AreOnce, Form, form_of, template_form, Agrees, IsThere, IsHeld, IsMemberOf, WindowsFollow, IsStreamSound, IsTaskOf, IsIndexSound, IsUnderWay, AreFactsSound, IsSoundCatalog}
use Rattle.stream_catalog.proofs.NamedLemmas.{inserted-map, without-map, each_found, each_inserted, named_inserted, named_without, found_name}
use Rattle.stream_catalog.proofs.CountLemmas.{named_new, other_head, length-without, times-append, times-filter, times-inserted, some_named, apart_of, ascend_inserted, ascend_filter, length-inserted, bytes_eq-sym, bytes_eq-itself}
use Rattle.stream_catalog.proofs.ChangeLemmas.{facts_named-facts}
use Rattle.stream_catalog.proofs.CatalogLemmas.{sound_of, task_of}
use Rattle.stream_catalog.proofs.FoldedLemmas.{MayFold}
use Rattle.stream_catalog.proofs.FactLemmas.{WindowAt, window, same_member, same_ends}
use Rattle.stream_catalog.proofs.AddedLemmas.{each_map, each_of_map, in_three, forms_each}
use Rattle.stream_catalog.proofs.DownsampleLemmas.{folded_held, suits_there, names_same}
use Rattle.stream_catalog.proofs.WiderLemmas.{folded_index-sound}

-- ---- one index in the place of another: n by j

module _ (is : List HeldIndex) (n : List ℕ) (i j : HeldIndex) (found : facts_named n is ≡ Some i) (same : window j ≡ window i) (fresh : times j.name (map facts_name is) ≡ 0) where
  abbrev replaced : List HeldIndex
  replaced = inserted facts_name j (without facts_name n is)

  fresh_left : times j.name (map facts_name (without facts_name n is)) ≡ 0
  fresh_left = let fewer = times-filter facts_name (λ x. not (bytes_eq x.name n)) j.name is in omega (arith, fresh, fewer)

  named_first : (xs : List HeldIndex) → times j.name (map facts_name xs) ≡ 0 → facts_named j.name (inserted facts_name j xs) ≡ Some j
  named_first xs none = named_new facts_name j xs none

  -- another index stays where it is
  stays : (m : List ℕ) (k : HeldIndex) → bytes_eq n m ≡ false → facts_named m is ≡ Some k → facts_named m replaced ≡ Some k
  stays m k other there =
      named_inserted facts_name m j (without facts_name n is) (apart_of j.name m (map facts_name is) fresh (some_named facts_name m is k there))
      ∙ (named_without facts_name n m is other ∙ there)

  window_stays : (m : List ℕ) → WindowAt (facts_named m is) (facts_named (renamed n j.name m) replaced)
  window_stays m = by_test (bytes_eq m n) refl
    where
      by_found : (o : Option HeldIndex) → bytes_eq n m ≡ false → facts_named m is ≡ o → WindowAt o (facts_named m replaced)
      by_found None other there = tt
      by_found (Some k) other there = ap (option_map window) (stays m k other there)

      by_test : (b : Bool) → bytes_eq m n ≡ b → WindowAt (facts_named m is) (facts_named (if b then j.name else m) replaced)
      by_test true here =
          subst (λ o. WindowAt o (facts_named j.name replaced)) (sym (ap (λ k. facts_named k is) ((bytes_eq-Decides m n).0 here) ∙ found))
          (ap (option_map window) (named_first (without facts_name n is) fresh_left) ∙ ap (λ w. Some w) same)
      by_test false other = by_found (facts_named m is) (bytes_eq-sym n m ∙ other) refl

  task_stays : (t : TaskFacts) → bytes_eq n t.index ≡ false → IsTaskOf t.by t.rises (facts_named t.index is) → IsTaskOf t.by t.rises (facts_named t.index replaced)
  task_stays t other holds = by_found (facts_named t.index is) refl holds
    where
      by_found : (o : Option HeldIndex) → facts_named t.index is ≡ o → IsTaskOf t.by t.rises o → IsTaskOf t.by t.rises (facts_named t.index replaced)
      by_found None there holds = absurd holds
      by_found (Some k) there holds = subst (IsTaskOf t.by t.rises) (sym (stays t.index k other there)) holds

  -- ---- streams

  members_stay : (template : List ℕ) (ms : List (List ℕ)) → Each (λ m. IsMemberOf template (facts_named m is)) ms → Each (λ m. IsMemberOf template (facts_named m replaced)) (map (renamed n j.name) ms)
  members_stay template [] each = tt
  members_stay template (m ∷ ms) each = (same_member template (facts_named m is) (facts_named (renamed n j.name m) replaced) (window_stays m) each.0, members_stay template ms each.1)

  windows_follow : (ms : List (List ℕ)) → WindowsFollow (map (λ m. facts_named m is) ms) → WindowsFollow (map (λ m. facts_named m replaced) (map (renamed n j.name) ms))
  windows_follow [] follow = tt
  windows_follow (m ∷ []) follow = tt
  windows_follow (m ∷ k ∷ ms) follow =
      (same_ends (facts_named m is) (facts_named k is) (facts_named (renamed n j.name m) replaced) (facts_named (renamed n j.name k) replaced) (window_stays m) (window_stays k) follow.0, windows_follow (k ∷ ms) follow.1)

  pub streams_stay : (f g : PlainFacts) → f.indices ≡ is → g.indices ≡ replaced → f.templates ≡ g.templates → (ss : List PlainStream) → Each (IsStreamSound f) ss → Each (IsStreamSound g) (map (with_renamed n j.name) ss)
  streams_stay f g was now templates [] each = tt
  streams_stay f g was now templates (s ∷ ss) each = (
    record {
      generation = each.0.generation;
      life = each.0.life;
      template = subst (λ ts. IsThere (template_named s.facts.template ts)) templates each.0.template;
      some = subst (λ k. 0 < k) (sym (length-map s.facts.members (renamed n j.name))) each.0.some;
      members = subst (λ js. Each (λ m. IsMemberOf s.facts.template (facts_named m js)) (map (renamed n j.name) s.facts.members)) (sym now)
          (members_stay s.facts.template s.facts.members (subst (λ js. Each (λ m. IsMemberOf s.facts.template (facts_named m js)) s.facts.members) was each.0.members));
      windows = subst (λ js. WindowsFollow (map (λ m. facts_named m js) (map (renamed n j.name) s.facts.members))) (sym now)
          (windows_follow s.facts.members (subst (λ js. WindowsFollow (map (λ m. facts_named m js) s.facts.members)) was each.0.windows));
    },
    streams_stay f g was now templates ss each.1,
  )

-- ---- names and members

-- a member that is there is the name of an index
pub member_counted : (template : List ℕ) (is : List HeldIndex) (m : List ℕ) (o : Option HeldIndex) → facts_named m is ≡ o → IsMemberOf template o → 1 ≤ times m (map facts_name is)
member_counted template is m None there is_member = absurd is_member
member_counted template is m (Some k) there is_member = some_named facts_name m is k there

pub no_member : (f : PlainFacts) (n : List ℕ) → times n (map facts_name f.indices) ≡ 0 → (s : PlainStream) → IsStreamSound f s → times n s.facts.members ≡ 0
no_member f n none s is = go s.facts.members is.members
  where
    go : (ms : List (List ℕ)) → Each (λ m. IsMemberOf s.facts.template (facts_named m f.indices)) ms → times n ms ≡ 0
    go [] each = refl
    go (m ∷ ms) each = by_test (bytes_eq m n) refl (go ms each.1)
      where
        by_test : (b : Bool) → bytes_eq m n ≡ b → times n ms ≡ 0 → (if b then suc (times n ms) else times n ms) ≡ 0
        by_test true here later =
            let some = member_counted s.facts.template f.indices m (facts_named m f.indices) refl each.0 in
            let same : times m (map facts_name f.indices) ≡ times n (map facts_name f.indices) = ap (λ k. times k (map facts_name f.indices)) ((bytes_eq-Decides m n).0 here) in
            absurd (omega (arith, some, same, none))
        by_test false other later = later

pub no_members : (f : PlainFacts) (n : List ℕ) → times n (map facts_name f.indices) ≡ 0 → (ss : List PlainStream) → Each (IsStreamSound f) ss → times n (flat_map (λ s. s.facts.members) ss) ≡ 0
no_members f n none [] each = refl
no_members f n none (s ∷ ss) each =
    let here = no_member f n none s each.0 in
    let later = no_members f n none ss each.1 in
    let both = times-append n s.facts.members (flat_map (λ t. t.facts.members) ss) in
    omega (arith, here, later, both)

-- a name counted where one takes the place of another
count_new : (old new n : List ℕ) (xs : List (List ℕ)) → bytes_eq new n ≡ true → times n (map (renamed old new) xs) ≤ times old xs + times n xs
count_new old new n [] is = omega arith
count_new old new n (x ∷ xs) is = by_test (bytes_eq x old) (count_new old new n xs is)
  where
    more : (b : Bool) (k : ℕ) → k ≤ (if b then suc k else k)
    more true k = omega arith
    more false k = omega arith

    by_test : (b : Bool) → times n (map (renamed old new) xs) ≤ times old xs + times n xs → times n ((if b then new else x) ∷ map (renamed old new) xs) ≤ (if b then suc (times old xs) else times old xs) + times n (x ∷ xs)
    by_test true later =
        let one : times n (new ∷ map (renamed old new) xs) ≡ suc (times n (map (renamed old new) xs)) = ap (λ b. if b then suc (times n (map (renamed old new) xs)) else times n (map (renamed old new) xs)) is in
        let grows = more (bytes_eq x n) (times n xs) in
        omega (arith, later, one, grows)
    by_test false later = both (bytes_eq x n)
      where
        both : (b : Bool) → (if b then suc (times n (map (renamed old new) xs)) else times n (map (renamed old new) xs)) ≤ times old xs + (if b then suc (times n xs) else times n xs)
        both true = omega (arith, later)
        both false = later

count_other : (old new n : List ℕ) (xs : List (List ℕ)) → bytes_eq new n ≡ false → times n (map (renamed old new) xs) ≤ times n xs
count_other old new n [] other = omega arith
count_other old new n (x ∷ xs) other = by_test (bytes_eq x old) (count_other old new n xs other)
  where
    more : (b : Bool) (j k : ℕ) → j ≤ k → j ≤ (if b then suc k else k)
    more true j k le = omega (arith, le)
    more false j k le = le

    grown : (b : Bool) (j k : ℕ) → j ≤ k → (if b then suc j else j) ≤ (if b then suc k else k)
    grown true j k le = omega (arith, le)
    grown false j k le = le

    by_test : (b : Bool) → times n (map (renamed old new) xs) ≤ times n xs → times n ((if b then new else x) ∷ map (renamed old new) xs) ≤ times n (x ∷ xs)
    by_test true later =
        subst (λ t. (if t then suc (times n (map (renamed old new) xs)) else times n (map (renamed old new) xs)) ≤ times n (x ∷ xs)) (sym other) (more (bytes_eq x n) (times n (map (renamed old new) xs)) (times n xs) later)
    by_test false later = grown (bytes_eq x n) (times n (map (renamed old new) xs)) (times n xs) later

-- a list where a name that it hasn't takes the place of another
once_renamed : (old new : List ℕ) (xs : List (List ℕ)) → times new xs ≡ 0 → AreOnce xs → AreOnce (map (renamed old new) xs)
once_renamed old new xs fresh once n = by_test (bytes_eq new n) refl
  where
    by_test : (b : Bool) → bytes_eq new n ≡ b → times n (map (renamed old new) xs) ≤ 1
    by_test true is =
        let none : times n xs ≡ 0 = subst (λ m. times m xs ≡ 0) ((bytes_eq-Decides new n).0 is) fresh in
        let few = count_new old new n xs is in
        let one = once old in
        omega (arith, none, few, one)
    by_test false other = let few = count_other old new n xs other in let one = once n in omega (arith, few, one)

map-append : (f : List ℕ → List ℕ) (xs ys : List (List ℕ)) → map f (xs ++ ys) ≡ map f xs ++ map f ys
map-append f [] ys = refl
map-append f (x ∷ xs) ys = ap (λ zs. f x ∷ zs) (map-append f xs ys)

members_renamed : (old new : List ℕ) (ss : List PlainStream) → flat_map (λ (s : PlainStream). s.facts.members) (map (with_renamed old new) ss) ≡ map (renamed old new) (flat_map (λ (s : PlainStream). s.facts.members) ss)
members_renamed old new [] = refl
members_renamed old new (s ∷ ss) =
    ap (λ ms. map (renamed old new) s.facts.members ++ ms) (members_renamed old new ss) ∙ sym (map-append (renamed old new) s.facts.members (flat_map (λ (t : PlainStream). t.facts.members) ss))

streams_named : (old new : List ℕ) (ss : List PlainStream) → map stream_name (map (with_renamed old new) ss) ≡ map stream_name ss
streams_named old new [] = refl
streams_named old new (s ∷ ss) = ap (λ ns. s.facts.name ∷ ns) (streams_named old new ss)

-- tasks of other indices
others_of : (n : List ℕ) (ts : List TaskFacts) → times n (map (λ (t : TaskFacts). t.index) ts) ≡ 0 → Each (λ t. bytes_eq n t.index ≡ false) ts
others_of n [] none = tt
others_of n (t ∷ ts) none = let head = other_head n t.index (map (λ (u : TaskFacts). u.index) ts) none in (bytes_eq-sym n t.index ∙ head.0, others_of n ts head.1)

-- ---- the swap

-- the new name is that of no index, and other tasks are of other indices
pub swap_told : (f : PlainFacts) (task : TaskFacts) (ts : List TaskFacts) (i : HeldIndex) → f.tasks ≡ task ∷ ts → facts_named task.index f.indices ≡ Some i → AreFactsSound f →
    (times task.target (map facts_name f.indices) ≡ 0) × Each (λ t. bytes_eq i.name t.index ≡ false) ts
swap_told f task ts i is there sound =
    let at : i.name ≡ task.index = (bytes_eq-Decides i.name task.index).0 (found_name facts_name task.index f.indices i there) in
    let streams = map (λ (s : PlainStream). s.facts.name) f.streams in
    let names = map facts_name f.indices in
    let targets = map (λ (t : TaskFacts). t.target) ts in
    let once : AreOnce (streams ++ names ++ (task.target ∷ targets)) = subst (λ us. AreOnce (streams ++ names ++ map (λ (t : TaskFacts). t.target) us)) is sound.names_once in
    let here = once task.target in
    let parts = in_three task.target streams names (task.target ∷ targets) in
    let own : times task.target (task.target ∷ targets) ≡ suc (times task.target targets) = ap (λ b. if b then suc (times task.target targets) else times task.target targets) (bytes_eq-itself task.target) in
    let indices = map (λ (t : TaskFacts). t.index) ts in
    let apart : AreOnce (task.index ∷ indices) = subst (λ us. AreOnce (map (λ (t : TaskFacts). t.index) us)) is sound.tasks_once in
    let first = apart task.index in
    let own_index : times task.index (task.index ∷ indices) ≡ suc (times task.index indices) = ap (λ b. if b then suc (times task.index indices) else times task.index indices) (bytes_eq-itself task.index) in
    (omega (arith, here, parts, own), subst (λ n. Each (λ t. bytes_eq n t.index ≡ false) ts) (sym at) (others_of task.index ts (omega (arith, first, own_index))))

swapped_facts : PlainFacts → TaskFacts → List TaskFacts → HeldIndex → HeldIndex → PlainFacts
swapped_facts f task ts i j = record {
  templates = f.templates;
  streams = map (with_renamed i.name task.target) f.streams;
  indices = inserted facts_name j (without facts_name i.name f.indices);
  tasks = ts;
}

swap_sound : (f : PlainFacts) (task : TaskFacts) (ts : List TaskFacts) (i : HeldIndex) → f.tasks ≡ task ∷ ts → facts_named task.index f.indices ≡ Some i → AreFactsSound f →
    AreFactsSound (swapped_facts f task ts i (folded_facts task.target task.rises task.by i))
unfolding swapped_facts
swap_sound f task ts i is there sound =
    let j = folded_facts task.target task.rises task.by i in
    let new = swapped_facts f task ts i j in
    let at : i.name ≡ task.index = (bytes_eq-Decides i.name task.index).0 (found_name facts_name task.index f.indices i there) in
    let found : facts_named i.name f.indices ≡ Some i = ap (λ n. facts_named n f.indices) at ∙ there in
    let streams = map (λ (s : PlainStream). s.facts.name) f.streams in
    let names = map facts_name f.indices in
    let targets = map (λ (t : TaskFacts). t.target) ts in
    let once : AreOnce (streams ++ names ++ (task.target ∷ targets)) = subst (λ us. AreOnce (streams ++ names ++ map (λ (t : TaskFacts). t.target) us)) is sound.names_once in
    let told = swap_told f task ts i is there sound in
    let fresh = told.0 in
    let tasks_apart : AreOnce (task.index ∷ map (λ (t : TaskFacts). t.index) ts) = subst (λ us. AreOnce (map (λ (t : TaskFacts). t.index) us)) is sound.tasks_once in
    let left = without facts_name i.name f.indices in
    let fresh_in_left : times task.target (map facts_name left) ≡ 0 = fresh_left f.indices i.name i j found refl fresh in
    let suits = suits_there f i.name i found sound in
    record {
      templates = sound.templates;
      indices = Each-weaker (IsHeld f) (IsHeld new) (λ k held. record { begins = held.begins; ends = held.ends; some = held.some; mapping = held.mapping; kind = held.kind; template = held.template }) (inserted facts_name j left)
          (each_inserted facts_name (IsHeld f) j left (folded_held f task.target task.rises task.by i (each_found facts_name (IsHeld f) i.name f.indices i found sound.indices))
          (Each-filter (IsHeld f) (λ k. not (bytes_eq k.name i.name)) f.indices sound.indices));
      streams = streams_stay f.indices i.name i j found refl fresh f new refl refl refl f.streams sound.streams;
      tasks = Each-both (λ t. bytes_eq i.name t.index ≡ false) (λ t. IsTaskOf t.by t.rises (facts_named t.index f.indices)) (λ t. IsTaskOf t.by t.rises (facts_named t.index (inserted facts_name j left)))
          (λ t other holds. task_stays f.indices i.name i j found refl fresh t other holds) ts told.1
          (subst (Each (λ t. IsTaskOf t.by t.rises (facts_named t.index f.indices))) is sound.tasks).1;
      indices_agree = swap_forms (λ a. Each (Agrees a) (map form_of (inserted facts_name j left))) j f.indices i.name
          (swap_forms (Agrees (form_of i)) j f.indices i.name suits.itself suits.others)
          (Each-both (λ a. Each (Agrees a) (map form_of f.indices)) (λ a. Agrees a (form_of i)) (λ a. Each (Agrees a) (map form_of (inserted facts_name j left)))
          (λ a all one. swap_forms (Agrees a) j f.indices i.name one all) (map form_of f.indices) sound.indices_agree suits.by_others);
      templates_agree = swap_forms (λ a. Each (Agrees a) (map template_form f.templates)) j f.indices i.name suits.templates sound.templates_agree;
      template_order = sound.template_order;
      stream_order = subst KeysAscend (sym (streams_named i.name task.target f.streams)) sound.stream_order;
      index_order = ascend_inserted facts_name j left (ascend_filter facts_name (λ k. not (bytes_eq k.name i.name)) f.indices sound.index_order) fresh_in_left;
      names_once = λ n.
          let was = once n in
          let old = in_three n streams names (task.target ∷ targets) in
          let now = in_three n (map stream_name (map (with_renamed i.name task.target) f.streams)) (map facts_name (inserted facts_name j left)) targets in
          let same : times n (map stream_name (map (with_renamed i.name task.target) f.streams)) ≡ times n streams = ap (times n) (streams_named i.name task.target f.streams) in
          let grown = times-inserted facts_name n j left in
          let fewer = times-filter facts_name (λ k. not (bytes_eq k.name i.name)) n f.indices in
          fits_by (bytes_eq task.target n) (times n streams) (times n names) (times n targets) (times n (map facts_name left)) (times n (map facts_name (inserted facts_name j left))) fewer grown
          (subst (λ k. k ≤ 1) old was) (now ∙ ap (λ k. k + times n (map facts_name (inserted facts_name j left)) + times n targets) same);
      members_once = subst AreOnce (sym (members_renamed i.name task.target f.streams))
          (once_renamed i.name task.target (flat_map (λ (s : PlainStream). s.facts.members) f.streams) (no_members f task.target fresh f.streams sound.streams) sound.members_once);
      tasks_once = λ n. once_less task.index (map (λ (t : TaskFacts). t.index) ts) tasks_apart n;
      few_templates = sound.few_templates;
      few_streams = subst (λ k. k ≤ 1000) (sym (length-map f.streams (with_renamed i.name task.target))) sound.few_streams;
      few_indices = let more = length-inserted facts_name j left in let gone = length-without facts_name i.name f.indices i found in let few = sound.few_indices in omega (arith, more, gone, few);
    }
  where
    swap_forms : (P : Form → Type 0) (j : HeldIndex) (xs : List HeldIndex) (n : List ℕ) → P (form_of j) → Each P (map form_of xs) → Each P (map form_of (inserted facts_name j (without facts_name n xs)))
    swap_forms P j xs n one each = forms_each P j (without facts_name n xs) one (each_map form_of P (without facts_name n xs) (Each-filter (λ k. P (form_of k)) (λ k. not (bytes_eq k.name n)) xs (each_of_map form_of P xs each)))

    fits_by : (b : Bool) (s i t l k : ℕ) {whole : ℕ} → l ≤ i → k ≡ (if b then suc l else l) → s + i + (if b then suc t else t) ≤ 1 → whole ≡ s + k + t → whole ≤ 1
    fits_by true s i t l k fewer grown was now = omega (arith, fewer, grown, was, now)
    fits_by false s i t l k fewer grown was now = omega (arith, fewer, grown, was, now)

    once_less : (x : List ℕ) (xs : List (List ℕ)) → AreOnce (x ∷ xs) → AreOnce xs
    once_less x xs once n = by_test (bytes_eq x n) (once n)
      where
        by_test : (b : Bool) → (if b then suc (times n xs) else times n xs) ≤ 1 → times n xs ≤ 1
        by_test true le = omega (arith, le)
        by_test false le = le

-- ---- units

-- another task goes on
way_stays : (is : List PlainIndex) (n : List ℕ) (j : PlainIndex) (m : List ℕ) (done : ℕ) → times j.facts.name (map index_name is) ≡ 0 → bytes_eq n m ≡ false → IsUnderWay done (index_named m is) → IsUnderWay done (index_named m (inserted index_name j (without index_name n is)))
way_stays is n j m done fresh other way = by_found (index_named m is) refl way
  where
    by_found : (o : Option PlainIndex) → index_named m is ≡ o → IsUnderWay done o → IsUnderWay done (index_named m (inserted index_name j (without index_name n is)))
    by_found None there way = absurd way
    by_found (Some k) there way =
        subst (IsUnderWay done)
        (sym (named_inserted index_name m j (without index_name n is) (apart_of j.facts.name m (map index_name is) fresh (some_named index_name m is k there)) ∙ (named_without index_name n m is other ∙ there))) way

swapped_sound : (c : PlainCatalog) (task : TaskFacts) (ts : List TaskFacts) (i : PlainIndex) → c.tasks ≡ task ∷ ts → index_named task.index c.indices ≡ Some i → IsSoundCatalog c → IsSoundCatalog (swapped plain_way (record c { tasks = ts }) task i)
unfolding swapped_facts
swapped_sound c task ts i is there sound =
    let f = facts_of c in
    let j = folded_index plain_way task.target task.rises task.by i in
    let named : facts_named task.index f.indices ≡ Some i.facts = facts_named-facts task.index c.indices ∙ ap (option_map (λ (k : PlainIndex). k.facts)) there in
    let holds = subst (Each (λ t. IsTaskOf t.by t.rises (facts_named t.index f.indices))) is sound.facts.tasks in
    let may : MayFold i.facts.interval i.facts.mapping.schema.rises task.rises task.by = task_of c task i there holds.0 in
    let left = without index_name i.facts.name c.indices in
    let facts_left : map (λ (k : PlainIndex). k.facts) (inserted index_name j left) ≡ inserted facts_name j.facts (without facts_name i.facts.name f.indices) =
    inserted-map (λ (k : PlainIndex). k.facts) index_name facts_name (λ k. refl) j left ∙ ap (inserted facts_name j.facts) (without-map (λ (k : PlainIndex). k.facts) index_name facts_name (λ k. refl) i.facts.name c.indices) in
    let told = swap_told f task ts i.facts is named sound.facts in
    record {
      facts = subst (λ fs. AreFactsSound (record { templates = c.templates; streams = map (with_renamed i.facts.name task.target) c.streams; indices = fs; tasks = ts })) (sym facts_left) (swap_sound f task ts i.facts is named sound.facts);
      indices = each_inserted index_name IsIndexSound j left (folded_index-sound task.target task.rises task.by i (sound_of c task.index i sound there) may) (Each-filter IsIndexSound (λ k. not (bytes_eq k.facts.name i.facts.name)) c.indices sound.indices);
      tasks = Each-both (λ t. bytes_eq i.facts.name t.index ≡ false) (λ t. IsUnderWay t.done (index_named t.index c.indices)) (λ t. IsUnderWay t.done (index_named t.index (inserted index_name j left)))
          (λ t other way. way_stays c.indices i.facts.name j t.index t.done (subst (λ ns. times task.target ns ≡ 0) (names_same c.indices) told.0) other way) ts told.1
          (subst (Each (λ t. IsUnderWay t.done (index_named t.index c.indices))) is sound.tasks).1;
    }

-- one series more
stepped_sound : (c : PlainCatalog) (task : TaskFacts) (ts : List TaskFacts) (i : PlainIndex) → c.tasks ≡ task ∷ ts → index_named task.index c.indices ≡ Some i → (next_done task.done (length (series_of i.rows)) == length (series_of i.rows)) ≡ false → IsSoundCatalog c →
    IsSoundCatalog (record c { tasks = record task { done = next_done task.done (length (series_of i.rows)) } ∷ ts })
stepped_sound c task ts i is there not_last sound =
    let way = subst (Each (λ t. IsUnderWay t.done (index_named t.index c.indices))) is sound.tasks in
    let tasks = subst (Each (λ t. IsTaskOf t.by t.rises (facts_named t.index (map (λ k. k.facts) c.indices)))) is sound.facts.tasks in
    let goes_on : List TaskFacts = record task { done = next_done task.done (length (series_of i.rows)) } ∷ ts in
    record {
      facts = record {
        templates = sound.facts.templates;
        indices = held_again (facts_of c) goes_on c.indices sound.facts.indices;
        streams = streams_again (facts_of c) goes_on c.streams sound.facts.streams;
        tasks = tasks;
        indices_agree = sound.facts.indices_agree;
        templates_agree = sound.facts.templates_agree;
        template_order = sound.facts.template_order;
        stream_order = sound.facts.stream_order;
        index_order = sound.facts.index_order;
        names_once = subst (λ us. AreOnce (map (λ s. s.facts.name) c.streams ++ map (λ k. k.name) (map (λ k. k.facts) c.indices) ++ map (λ (t : TaskFacts). t.target) us)) is sound.facts.names_once;
        members_once = sound.facts.members_once;
        tasks_once = subst (λ us. AreOnce (map (λ (t : TaskFacts). t.index) us)) is sound.facts.tasks_once;
        few_templates = sound.facts.few_templates;
        few_streams = sound.facts.few_streams;
        few_indices = sound.facts.few_indices;
      };
      indices = sound.indices;
      tasks = (subst (IsUnderWay (next_done task.done (length (series_of i.rows)))) (sym there) (still task.done (length (series_of i.rows)) not_last (subst (IsUnderWay task.done) there way.0)), way.1);
    }
  where
    still : (done series : ℕ) → (next_done done series == series) ≡ false → (done < series) ⊎ ((done ≡ 0) × (series ≡ 0)) → (next_done done series < series) ⊎ ((next_done done series ≡ 0) × (series ≡ 0))
    still done series not_last way = by_test (done == series) refl not_last
      where
        not_equal : (a b : ℕ) → (a == b) ≡ false → a ≡ b → ⊥
        not_equal a b is same = both_ways (a == b) is ((Decides-eqb a b).1 same)

        by_test : (b : Bool) → (done == series) ≡ b → ((if b then done else done + 1) == series) ≡ false → ((if b then done else done + 1) < series) ⊎ (((if b then done else done + 1) ≡ 0) × (series ≡ 0))
        by_test true here is = absurd (both_ways (done == series) is here)
        by_test false other is = elim way [
          | inl below ↦ inl (let apart = not_equal (done + 1) series is in less_or (done + 1) series apart (omega (arith, below)))
          | inr none ↦ absurd (not_equal done series other (none.0 ∙ sym none.1))
        ]
          where
            less_or : (a b : ℕ) → (a ≡ b → ⊥) → a ≤ b → a < b
            less_or a b apart le = elim (cases_lt a b) [ inl below ↦ below | inr above ↦ absurd (apart (omega (arith, le, above))) ]

    held_again : (f : PlainFacts) (us : List TaskFacts) (xs : List PlainIndex) → Each (IsHeld f) (map (λ k. k.facts) xs) → Each (IsHeld (record f { tasks = us })) (map (λ k. k.facts) xs)
    held_again f us xs each = Each-weaker (IsHeld f) (IsHeld (record f { tasks = us })) (λ k held. record { begins = held.begins; ends = held.ends; some = held.some; mapping = held.mapping; kind = held.kind; template = held.template }) (map (λ k. k.facts) xs) each

    streams_again : (f : PlainFacts) (us : List TaskFacts) (ss : List PlainStream) → Each (IsStreamSound f) ss → Each (IsStreamSound (record f { tasks = us })) ss
    streams_again f us ss each = Each-weaker (IsStreamSound f) (IsStreamSound (record f { tasks = us })) (λ s is. record { generation = is.generation; life = is.life; template = is.template; some = is.some; members = is.members; windows = is.windows }) ss each

pub units_keep_sound : UnitsKeepSound
unfolding unit_of
units_keep_sound c sound = by_tasks c.tasks refl
  where
    by_last : (task : TaskFacts) (ts : List TaskFacts) (i : PlainIndex) → c.tasks ≡ task ∷ ts → index_named task.index c.indices ≡ Some i → (b : Bool) → (next_done task.done (length (series_of i.rows)) == length (series_of i.rows)) ≡ b →
        IsSoundCatalog (if b then swapped plain_way (record c { tasks = ts }) task i else record c { tasks = record task { done = next_done task.done (length (series_of i.rows)) } ∷ ts })
    by_last task ts i is there true last = swapped_sound c task ts i is there sound
    by_last task ts i is there false not_last = stepped_sound c task ts i is there not_last sound

    by_found : (task : TaskFacts) (ts : List TaskFacts) → c.tasks ≡ task ∷ ts → (o : Option PlainIndex) → index_named task.index c.indices ≡ o → IsSoundCatalog (advanced_at plain_way c task ts o)
    by_found task ts is None there = sound
    by_found task ts is (Some i) there = by_last task ts i is there (next_done task.done (length (series_of i.rows)) == length (series_of i.rows)) refl

    by_tasks : (ts : List TaskFacts) → c.tasks ≡ ts → IsSoundCatalog (unit_from plain_way c ts)
    by_tasks [] is = sound
    by_tasks (task ∷ ts) is = by_found task ts is (index_named task.index c.indices) refl
