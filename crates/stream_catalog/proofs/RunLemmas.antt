-- Steps of a lifecycle run keep a catalogue sound: a window that ends later, and a fold that begins.
use Rattle.std.specs.Prelude.{◌≡◌, ℕ, suc, zero, ℤ, ◌<◌, ◌≤ℤ◌, ◌<ℤ◌, ◌⊎◌, Bool, true, false, List, [], ◌∷◌, ◌++◌, map, length, Option, Some, None, bytes_eq}
use Rattle.std.specs.Option.{option_map}
use Rattle.std.proofs.Common.{refl, ap, ◌∙◌, sym, subst, arith, inl, inr}
use Rattle.std.proofs.lemmas.Int.{ints}
use Rattle.std.proofs.lemmas.Slice.Eq.{bytes_eq-Decides}
use Rattle.row_cells.specs.Each.{Each}
use Rattle.row_cells.specs.EachLaws.{Each-weaker, Each-both}
use Rattle.row_cells.specs.declared.rows.Row.{Row}
use Rattle.row_cells.specs.declared.schemas.Schema.{Schema}
use Rattle.time_text.specs.Bucket.{bucket_start}
use Rattle.time_text.specs.Instant.{IsInstant}
use Rattle.time_text.specs.Interval.{ms_of}
use Rattle.time_text.specs.declared.intervals.Interval.{Interval}
use Rattle.downsample_fold.specs.Intervals.{interval_fault}
use Rattle.downsample_fold.specs.Laws.{series_of}
use Rattle.stream_catalog.specs.declared.facts.HeldIndex.{HeldIndex}
use Rattle.stream_catalog.specs.declared.facts.TaskFacts.{TaskFacts}
use Rattle.stream_catalog.specs.Plain.{PlainIndex, PlainStream, PlainCatalog, PlainFacts, facts_of}
use Rattle.stream_catalog.specs.Lists.{updated, stream_name, index_name, facts_name, facts_named, index_named}
use Rattle.stream_catalog.specs.Names.{names_of, is_taken}
use Rattle.stream_catalog.specs.Indices.{blocked_index, blocked_in, task_index}
use Rattle.stream_catalog.specs.Runs.{Running, ends_at, new_task, started}
use Rattle.stream_catalog.specs.Sound.{times, AreOnce, IsWithin, Meets, AreRaw, AreFolds, AreRows, IsHeld, IsMemberOf, EndsBefore, WindowsFollow, IsStreamSound, KeepsMark, IsTaskOf, IsIndexSound, IsUnderWay, AreFactsSound, IsSoundCatalog}
use Rattle.stream_catalog.proofs.NamedLemmas.{none_not_some, some_is, each_updated, named_updated, named_updated_here, names_updated, updated-map}
use Rattle.stream_catalog.proofs.CountLemmas.{bytes_eq-sym, times-append, times-none}
use Rattle.stream_catalog.proofs.FactLemmas.{changed_facts}
use Rattle.stream_catalog.proofs.AddedLemmas.{in_three}
use Rattle.stream_catalog.proofs.BlockLemmas.{still_under_way, blocks_keep_sound}
use Rattle.stream_catalog.proofs.CatalogLemmas.{sound_of}
use Rattle.stream_catalog.proofs.ChangeLemmas.{facts_named-facts}
use Rattle.stream_catalog.proofs.DownsampleLemmas.{names_same}
use Rattle.stream_catalog.proofs.KeptLemmas.{task_target}
use Rattle.stream_catalog.proofs.NewLemmas.{once_grown}
use Rattle.stream_catalog.proofs.RollLemmas.{each_end}

-- ---- a window that ends later

-- a name stands nowhere but at the end
abbrev pub NotBefore : List ℕ → List (List ℕ) → Type 0
NotBefore n [] = Unit {0}
NotBefore n (m ∷ []) = Unit {0}
NotBefore n (m ∷ k ∷ ms) = (bytes_eq m n ≡ false) × NotBefore n (k ∷ ms)

-- what streams ask of a member behind another
abbrev begin : HeldIndex → List ℕ × ℤ
begin i = (i.template, i.start)

abbrev grown : ℤ → HeldIndex → HeldIndex
grown end i = record i { end = end }

member_begin : (template : List ℕ) (o p : Option HeldIndex) → option_map begin p ≡ option_map begin o → IsMemberOf template o → IsMemberOf template p
member_begin template None p same is = absurd is
member_begin template (Some i) None same is = absurd (none_not_some same)
member_begin template (Some i) (Some j) same is = ap (λ (b : List ℕ × ℤ). b.0) (some_is same) ∙ is

ends_begin : (a o p : Option HeldIndex) → option_map begin p ≡ option_map begin o → EndsBefore a o → EndsBefore a p
ends_begin None o p same ends = absurd ends
ends_begin (Some a) None p same ends = absurd ends
ends_begin (Some a) (Some i) None same ends = absurd (none_not_some same)
ends_begin (Some a) (Some i) (Some j) same ends = subst (λ (b : List ℕ × ℤ). a.end ≤ℤ b.1) (sym (some_is same)) ends

module _ (is : List HeldIndex) (n : List ℕ) (end : ℤ) where
  abbrev later : List HeldIndex
  later = updated facts_name n (grown end) is

  begins_stay : (m : List ℕ) → option_map begin (facts_named m later) ≡ option_map begin (facts_named m is)
  begins_stay m = by_test (bytes_eq n m) refl
    where
      by_found : (o : Option HeldIndex) → option_map begin (option_map (grown end) o) ≡ option_map begin o
      by_found None = refl
      by_found (Some i) = refl

      by_test : (b : Bool) → bytes_eq n m ≡ b → option_map begin (facts_named m later) ≡ option_map begin (facts_named m is)
      by_test true here =
          subst (λ k. option_map begin (facts_named k later) ≡ option_map begin (facts_named k is)) ((bytes_eq-Decides n m).0 here)
          (ap (option_map begin) (named_updated_here facts_name n (grown end) is (λ i. refl)) ∙ by_found (facts_named n is))
      by_test false other = ap (option_map begin) (named_updated facts_name n m (grown end) is (λ i. refl) other)

  windows_grown : (ms : List (List ℕ)) → NotBefore n ms → WindowsFollow (map (λ m. facts_named m is) ms) → WindowsFollow (map (λ m. facts_named m later) ms)
  windows_grown [] before follow = tt
  windows_grown (m ∷ []) before follow = tt
  windows_grown (m ∷ k ∷ ms) before follow = (
    subst (λ o. EndsBefore o (facts_named k later)) (sym (named_updated facts_name n m (grown end) is (λ i. refl) (bytes_eq-sym n m ∙ before.0)))
        (ends_begin (facts_named m is) (facts_named k is) (facts_named k later) (begins_stay k) follow.0),
    windows_grown (k ∷ ms) before.1 follow.1,
  )

  members_grown : (template : List ℕ) (ms : List (List ℕ)) → Each (λ m. IsMemberOf template (facts_named m is)) ms → Each (λ m. IsMemberOf template (facts_named m later)) ms
  members_grown template ms each = Each-weaker (λ m. IsMemberOf template (facts_named m is)) (λ m. IsMemberOf template (facts_named m later)) (λ m is_member. member_begin template (facts_named m is) (facts_named m later) (begins_stay m) is_member) ms each

stream_grown : (f : PlainFacts) (n : List ℕ) (end : ℤ) (s : PlainStream) → IsStreamSound f s → NotBefore n s.facts.members → IsStreamSound (record f { indices = updated facts_name n (grown end) f.indices }) s
stream_grown f n end s is before = record {
  generation = is.generation;
  life = is.life;
  template = is.template;
  some = is.some;
  members = members_grown f.indices n end s.facts.template s.facts.members is.members;
  windows = windows_grown f.indices n end s.facts.members before is.windows;
}

less_upto : (a b c : ℤ) → a <ℤ b → b ≤ℤ c → a <ℤ c
less_upto a b c first second = omega (arith, ints, first, second)

raw_grown : (schema : Schema) (start old end : ℤ) (rows : List Row) → old ≤ℤ end → AreRaw schema start old rows → AreRaw schema start end rows
raw_grown schema start old end rows more are = record {
  each = are.each;
  within = Each-weaker (λ row. IsWithin start old row.time) (λ row. IsWithin start end row.time) (λ row within. (within.0, less_upto row.time old end within.1 more)) rows are.within;
}

folds_grown : (schema : Schema) (start old end : ℤ) (k : ℕ) (rows : List Row) → old ≤ℤ end → AreFolds schema start old k rows → AreFolds schema start end k rows
folds_grown schema start old end k rows more are = record {
  by = are.by;
  some = are.some;
  divides = are.divides;
  each = are.each;
  starts = are.starts;
  meet = Each-weaker (λ row. Meets k start old (bucket_start k row.time)) (λ row. Meets k start end (bucket_start k row.time)) (λ row meets. (less_upto (bucket_start k row.time) old end meets.0 more, meets.1)) rows are.meet;
}

rows_grown : (interval : Option Interval) (schema : Schema) (start old end : ℤ) (rows : List Row) → old ≤ℤ end → AreRows interval schema start old rows → AreRows interval schema start end rows
rows_grown None schema start old end rows more are = raw_grown schema start old end rows more are
rows_grown (Some by) schema start old end rows more are = elim are [
  | inl raw ↦ inl (raw_grown schema start old end rows more raw)
  | inr folds ↦ inr (folds_grown schema start old end (ms_of by) rows more folds)
]

pub extended-sound : (c : PlainCatalog) (n : List ℕ) (end : ℤ) → IsInstant end → ((i : HeldIndex) → facts_named n (map (λ j. j.facts) c.indices) ≡ Some i → i.end ≤ℤ end) → Each (λ s. NotBefore n s.facts.members) c.streams →
    IsSoundCatalog c → IsSoundCatalog (record c { indices = updated index_name n (ends_at end) c.indices })
extended-sound c n end instant sooner last sound =
    let f = facts_of c in
    let new = record f { indices = updated facts_name n (grown end) f.indices } in
    record {
      facts = subst (λ fs. AreFactsSound (record f { indices = fs })) (sym (updated-map (λ (i : PlainIndex). i.facts) index_name facts_name (λ i. refl) n (ends_at end) (grown end) c.indices (λ i found. refl)))
          (changed_facts n (grown end) (λ i. refl) (λ i. refl) f
          (λ i found is. record { begins = is.begins; ends = instant; some = less_upto i.start i.end end is.some (sooner i found); mapping = is.mapping; kind = is.kind; template = is.template })
          (λ by rises i is. is)
          (Each-both (IsStreamSound f) (λ s. NotBefore n s.facts.members) (IsStreamSound new) (λ s is before. stream_grown f n end s is before) c.streams sound.facts.streams last)
          sound.facts);
      indices = each_updated index_name IsIndexSound n (ends_at end) c.indices
          (λ i found.
          let was = sound_of c n i sound found in
          let more = sooner i.facts (facts_named-facts n c.indices ∙ ap (option_map (λ (j : PlainIndex). j.facts)) found) in
          record { rows = rows_grown i.facts.interval i.facts.mapping.schema i.facts.start i.facts.end end i.rows more was.rows; distinct = was.distinct; few = was.few }) sound.indices;
      tasks = Each-weaker (λ t. IsUnderWay t.done (index_named t.index c.indices)) (λ t. IsUnderWay t.done (index_named t.index (updated index_name n (ends_at end) c.indices)))
          (λ t way. still_under_way n t.index (ends_at end) c.indices t.done (λ i. refl) (λ i. refl) way) c.tasks sound.tasks;
    }

-- ---- a task more

pub map-end : {A : Type 0} (name : A → List ℕ) (xs : List A) (x : A) → map name (xs ++ x ∷ []) ≡ map name xs ++ name x ∷ []
map-end name [] x = refl
map-end name (y ∷ ys) x = ap (λ ns. name y ∷ ns) (map-end name ys x)

end_grown : (x n : List ℕ) (old : List (List ℕ)) → times n (old ++ x ∷ []) ≡ times n (x ∷ old)
end_grown x n old = let a = times-append n old (x ∷ []) in let b = times-append n (x ∷ []) old in omega (arith, a, b)

third_grown : (x n : List ℕ) (xs ys zs : List (List ℕ)) → times n (xs ++ ys ++ (zs ++ x ∷ [])) ≡ times n (x ∷ (xs ++ ys ++ zs))
third_grown x n xs ys zs =
    let a = in_three n xs ys (zs ++ x ∷ []) in
    let b = in_three n xs ys zs in
    let c = times-append n zs (x ∷ []) in
    let d = times-append n (x ∷ []) (xs ++ ys ++ zs) in
    omega (arith, a, b, c, d)

task_added : (f : PlainFacts) (t : TaskFacts) → IsTaskOf t.by t.rises (facts_named t.index f.indices) → times t.target (names_of f) ≡ 0 → times t.index (map task_index f.tasks) ≡ 0 → AreFactsSound f → AreFactsSound (record f { tasks = f.tasks ++ t ∷ [] })
task_added f t holds fresh alone sound =
    let new = record f { tasks = f.tasks ++ t ∷ [] } in
    let streams = map stream_name f.streams in
    let names = map facts_name f.indices in
    let targets = map task_target f.tasks in
    record {
      templates = sound.templates;
      indices = Each-weaker (IsHeld f) (IsHeld new) (λ i is. record { begins = is.begins; ends = is.ends; some = is.some; mapping = is.mapping; kind = is.kind; template = is.template }) f.indices sound.indices;
      streams = Each-weaker (IsStreamSound f) (IsStreamSound new) (λ s is. record { generation = is.generation; life = is.life; template = is.template; some = is.some; members = is.members; windows = is.windows }) f.streams sound.streams;
      tasks = each_end (λ u. IsTaskOf u.by u.rises (facts_named u.index f.indices)) f.tasks t sound.tasks holds;
      indices_agree = sound.indices_agree;
      templates_agree = sound.templates_agree;
      template_order = sound.template_order;
      stream_order = sound.stream_order;
      index_order = sound.index_order;
      names_once = subst (λ ns. AreOnce (streams ++ names ++ ns)) (sym (map-end task_target f.tasks t))
          (once_grown t.target (streams ++ names ++ targets) (streams ++ names ++ (targets ++ t.target ∷ [])) (λ n. third_grown t.target n streams names targets) fresh sound.names_once);
      members_once = sound.members_once;
      tasks_once = subst AreOnce (sym (map-end task_index f.tasks t)) (once_grown t.index (map task_index f.tasks) (map task_index f.tasks ++ t.index ∷ []) (λ n. end_grown t.index n (map task_index f.tasks)) alone sound.tasks_once);
      few_templates = sound.few_templates;
      few_streams = sound.few_streams;
      few_indices = sound.few_indices;
    }

keeps_mark : (interval : Option Interval) (rises : Bool) → KeepsMark interval rises rises
keeps_mark None rises = tt
keeps_mark (Some by) rises = refl

some_or_none : (k : ℕ) → (zero < k) ⊎ ((zero ≡ zero) × (k ≡ zero))
some_or_none zero = inr (refl, refl)
some_or_none (suc k) = inl (omega arith)

pub started-sound : (r : Running) (i : PlainIndex) (by : Interval) → index_named i.facts.name r.catalog.indices ≡ Some i → interval_fault i.facts.interval by ≡ None → times i.facts.name (map task_index r.catalog.tasks) ≡ 0 →
    is_taken (new_task i by).target (facts_of r.catalog) ≡ false → IsSoundCatalog r.catalog → IsSoundCatalog (started r i by).catalog
started-sound r i by found fault alone free sound =
    let c = r.catalog in
    let n = i.facts.name in
    let t = new_task i by in
    let d = blocked_in c n in
    let blocked = blocks_keep_sound c n sound in
    let here : index_named n d.indices ≡ Some (blocked_index i) = named_updated_here index_name n blocked_index c.indices (λ j. refl) ∙ ap (option_map blocked_index) found in
    let facts : facts_named n (map (λ j. j.facts) d.indices) ≡ Some (blocked_index i).facts = facts_named-facts n d.indices ∙ ap (option_map (λ (j : PlainIndex). j.facts)) here in
    let names : map facts_name (map (λ j. j.facts) d.indices) ≡ map facts_name (map (λ j. j.facts) c.indices) =
    names_same d.indices ∙ (names_updated index_name n blocked_index c.indices (λ j. refl) ∙ sym (names_same c.indices)) in
    record {
      facts = task_added (facts_of d) t (subst (IsTaskOf by t.rises) (sym facts) (refl, fault, keeps_mark i.facts.interval t.rises))
          (subst (λ ns. times t.target (map stream_name c.streams ++ ns ++ map task_target c.tasks) ≡ 0) (sym names) (times-none t.target (names_of (facts_of c)) free))
          alone blocked.facts;
      indices = blocked.indices;
      tasks = each_end (λ u. IsUnderWay u.done (index_named u.index d.indices)) c.tasks t blocked.tasks (subst (IsUnderWay 0) (sym here) (some_or_none (length (series_of i.rows))));
    }
