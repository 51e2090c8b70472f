-- A lifecycle run keeps a catalogue sound.
use Rattle.std.specs.Prelude.{◌≡◌, ℕ, suc, zero, ℤ, ◌+◌, ◌+ℤ◌, ◌-ℤ◌, ◌≤◌, ◌<◌, ◌≤ℤ◌, ◌&&◌, ◌||◌, Bool, not, true, false, cond, int_lt, List, [], ◌∷◌, ◌++◌, map, filter, length, Option, Some, None, if◌then◌else◌, bytes_eq}
use Rattle.std.specs.List.{cons_option, filter_map, list_any, slice_get}
use Rattle.std.specs.Option.{is_none, option_map}
use Rattle.std.specs.Int.Signed.{lt_z_yes}
use Rattle.std.proofs.Common.{refl, ap, ◌∙◌, sym, subst, arith, T}
use Rattle.std.proofs.lemmas.Bool.{and_parts, both_ways, false_from_ne_true, not-true}
use Rattle.std.proofs.lemmas.Int.{ints}
use Rattle.std.proofs.lemmas.Slice.Eq.{bytes_eq-Decides}
use Rattle.row_cells.specs.Dimensions.{IsBefore}
use Rattle.row_cells.specs.Each.{Each}
use Rattle.row_cells.specs.EachLaws.{Each-weaker, Each-both}
use Rattle.time_text.specs.Instant.{IsInstant}
use Rattle.time_text.specs.declared.intervals.Interval.{Interval}
use Rattle.downsample_fold.specs.Intervals.{interval_fault}
use Rattle.downsample_fold.specs.Laws.{KeysAscend}
use Rattle.index_names.specs.Backing.{downsample_name}
use Rattle.lifecycle_swap.specs.Ends.{end_after}
use Rattle.lifecycle_swap.specs.Plan.{if_so, extension, is_over, round_at, start_step, aged_step, member_step, plan_of}
use Rattle.lifecycle_swap.specs.declared.lifecycles.Lifecycle.{Lifecycle}
use Rattle.lifecycle_swap.specs.declared.lifecycles.Round.{Round}
use Rattle.lifecycle_swap.specs.declared.planning.IndexFacts.{IndexFacts}
use Rattle.lifecycle_swap.specs.declared.planning.Step.{Step}
use Rattle.lifecycle_swap.specs.declared.planning.Step.TheVariants.{Extend, Delete, Start}
use Rattle.ts_mapping.specs.declared.templates.Template.{Template}
use Rattle.stream_catalog.specs.declared.facts.HeldIndex.{HeldIndex}
use Rattle.stream_catalog.specs.declared.facts.TaskFacts.{TaskFacts}
use Rattle.stream_catalog.specs.Plain.{PlainIndex, PlainStream, PlainCatalog, PlainFacts, facts_of}
use Rattle.stream_catalog.specs.Lists.{with_found, updated, without, stream_name, index_name, facts_name, template_named, stream_named, facts_named, index_named}
use Rattle.stream_catalog.specs.Names.{is_taken}
use Rattle.stream_catalog.specs.Streams.{last_of, is_write, write_name}
use Rattle.stream_catalog.specs.Indices.{blocked_index, task_index, without_member}
use Rattle.stream_catalog.specs.Laws.{RunsKeepSound}
use Rattle.stream_catalog.specs.Runs.{Running, member_facts, facts_from, ends_at, extended, deleted, new_task, started, started_if_free, start_at, run_step, run_steps, run_stream, run_streams, lifecycle_run}
use Rattle.stream_catalog.specs.Sound.{times, AreOnce, IsStreamSound, IsSoundCatalog}
use Rattle.stream_catalog.proofs.NamedLemmas.{none_not_some, some_is, found_name, named-map, without-map, named_updated, named_without, updated-map}
use Rattle.stream_catalog.proofs.CountLemmas.{other_head, bytes_eq-sym, bytes_eq-itself, times-append, times-filter}
use Rattle.stream_catalog.proofs.ChangeLemmas.{facts_named-facts}
use Rattle.stream_catalog.proofs.GoneLemmas.{all_members, members_apart, counted_all, index_deleted-sound}
use Rattle.stream_catalog.proofs.KeptLemmas.{last_kept}
use Rattle.stream_catalog.proofs.AddedLemmas.{each_map, each_of_map}
use Rattle.stream_catalog.proofs.NewLemmas.{all_found, before_apart}
use Rattle.stream_catalog.proofs.WindowLemmas.{ends_is}
use Rattle.stream_catalog.proofs.RunLemmas.{NotBefore, map-end, extended-sound, started-sound}

-- ---- steps with the names of their members

pub record Deed : Type 0 where
  pub name : List ℕ
  pub step : Step

abbrev place_of : Step → ℕ
place_of (Extend place end) = place
place_of (Delete place) = place
place_of (Start place by) = place

abbrev done_as : List ℕ → Running → Step → Running
done_as n r (Extend place end) = extended r n end
done_as n r (Delete place) = deleted r n
done_as n r (Start place by) = start_at r n by

abbrev done_deeds : Running → List Deed → Running
done_deeds r [] = r
done_deeds r (d ∷ ds) = done_deeds (done_as d.name r d.step) ds

abbrev IsPlaced : List (List ℕ) → Deed → Type 0
IsPlaced members d = slice_get members (place_of d.step) ≡ Some d.name

done_as-is : (members : List (List ℕ)) (r : Running) (n : List ℕ) (step : Step) → slice_get members (place_of step) ≡ Some n → run_step members r step ≡ done_as n r step
done_as-is members r n (Extend place end) is = ap (λ o. with_found o r (λ k. extended r k end)) is
done_as-is members r n (Delete place) is = ap (λ o. with_found o r (λ k. deleted r k)) is
done_as-is members r n (Start place by) is = ap (λ o. with_found o r (λ k. start_at r k by)) is

done_deeds-are : (members : List (List ℕ)) (r : Running) (ds : List Deed) → Each (IsPlaced members) ds → run_steps members r (map (λ (d : Deed). d.step) ds) ≡ done_deeds r ds
done_deeds-are members r [] each = refl
done_deeds-are members r (d ∷ ds) each =
    ap (λ q. run_steps members q (map (λ (e : Deed). e.step) ds)) (done_as-is members r d.name d.step each.0) ∙ done_deeds-are members (done_as d.name r d.step) ds each.1

run_steps-append : (members : List (List ℕ)) (r : Running) (xs ys : List Step) → run_steps members r (xs ++ ys) ≡ run_steps members (run_steps members r xs) ys
run_steps-append members r [] ys = refl
run_steps-append members r (x ∷ xs) ys = run_steps-append members (run_step members r x) xs ys

-- ---- the deeds of members, by what is asked of each

abbrev with_deed : List ℕ → Option Step → List Deed → List Deed
with_deed m None ds = ds
with_deed m (Some step) ds = record { name = m; step = step } ∷ ds

module _ (asks : IndexFacts → Option Step) (f : PlainFacts) (s : PlainStream) where
  abbrev deeds : ℕ → List (List ℕ) → List Deed
  deeds place [] = []
  deeds place (m ∷ ms) = with_found (facts_named m f.indices) (deeds (place + 1) ms) (λ i. with_deed m (asks (member_facts f s place i)) (deeds (place + 1) ms))

  deeds-steps : (place : ℕ) (ms : List (List ℕ)) → filter_map asks (facts_from f s place ms) ≡ map (λ (d : Deed). d.step) (deeds place ms)
  deeds-steps place [] = refl
  deeds-steps place (m ∷ ms) = by_found (facts_named m f.indices) (deeds-steps (place + 1) ms)
    where
      by_step : (o : Option Step) → filter_map asks (facts_from f s (place + 1) ms) ≡ map (λ (d : Deed). d.step) (deeds (place + 1) ms)
          → cons_option o (filter_map asks (facts_from f s (place + 1) ms)) ≡ map (λ (d : Deed). d.step) (with_deed m o (deeds (place + 1) ms))
      by_step None later = later
      by_step (Some step) later = ap (λ xs. step ∷ xs) later

      by_found : (o : Option HeldIndex) → filter_map asks (facts_from f s (place + 1) ms) ≡ map (λ (d : Deed). d.step) (deeds (place + 1) ms)
          → filter_map asks (with_found o (facts_from f s (place + 1) ms) (λ i. member_facts f s place i ∷ facts_from f s (place + 1) ms))
          ≡ map (λ (d : Deed). d.step) (with_found o (deeds (place + 1) ms) (λ i. with_deed m (asks (member_facts f s place i)) (deeds (place + 1) ms)))
      by_found None later = later
      by_found (Some i) later = by_step (asks (member_facts f s place i)) later

  -- what holds of each deed that a member's facts ask for
  deeds_each : (P : ℕ → Deed → Type 0) (Q : List ℕ → Type 0) →
      ((place : ℕ) (m : List ℕ) (i : HeldIndex) (step : Step) → Q m → facts_named m f.indices ≡ Some i → asks (member_facts f s place i) ≡ Some step → P place (record { name = m; step = step })) →
      (R : Deed → Type 0) → (place : ℕ) (ms : List (List ℕ)) → ((k : ℕ) (m : List ℕ) (step : Step) → slice_get ms k ≡ Some m → P (place + k) (record { name = m; step = step }) → R (record { name = m; step = step })) → Each Q ms → Each R (deeds place ms)
  deeds_each P Q asked R place [] tell each = tt
  deeds_each P Q asked R place (m ∷ ms) tell each =
      by_found (facts_named m f.indices) refl
      (deeds_each P Q asked R (place + 1) ms (λ k n step at p. tell (suc k) n step at (subst (λ j. P j (record { name = n; step = step })) (omega arith) p)) each.1)
    where
      by_step : (i : HeldIndex) → facts_named m f.indices ≡ Some i → (o : Option Step) → asks (member_facts f s place i) ≡ o → Each R (deeds (place + 1) ms) → Each R (with_deed m o (deeds (place + 1) ms))
      by_step i found None is later = later
      by_step i found (Some step) is later = (tell zero m step refl (subst (λ j. P j (record { name = m; step = step })) (omega arith) (asked place m i step each.0 found is)), later)

      by_found : (o : Option HeldIndex) → facts_named m f.indices ≡ o → Each R (deeds (place + 1) ms) → Each R (with_found o (deeds (place + 1) ms) (λ i. with_deed m (asks (member_facts f s place i)) (deeds (place + 1) ms)))
      by_found None found later = later
      by_found (Some i) found later = by_step i found (asks (member_facts f s place i)) refl later

  -- a member has one deed at most
  deeds-times : (n : List ℕ) (place : ℕ) (ms : List (List ℕ)) → times n (map (λ (d : Deed). d.name) (deeds place ms)) ≤ times n ms
  deeds-times n place [] = omega arith
  deeds-times n place (m ∷ ms) = by_found (facts_named m f.indices) (deeds-times n (place + 1) ms)
    where
      grown : (b : Bool) (j k : ℕ) → j ≤ k → (if b then suc j else j) ≤ (if b then suc k else k)
      grown true j k le = omega (arith, le)
      grown false j k le = le

      more : (b : Bool) (j k : ℕ) → j ≤ k → j ≤ (if b then suc k else k)
      more true j k le = omega (arith, le)
      more false j k le = le

      by_step : (o : Option Step) → times n (map (λ (d : Deed). d.name) (deeds (place + 1) ms)) ≤ times n ms → times n (map (λ (d : Deed). d.name) (with_deed m o (deeds (place + 1) ms))) ≤ (if bytes_eq m n then suc (times n ms) else times n ms)
      by_step None later = more (bytes_eq m n) (times n (map (λ (d : Deed). d.name) (deeds (place + 1) ms))) (times n ms) later
      by_step (Some step) later = grown (bytes_eq m n) (times n (map (λ (d : Deed). d.name) (deeds (place + 1) ms))) (times n ms) later

      by_found : (o : Option HeldIndex) → times n (map (λ (d : Deed). d.name) (deeds (place + 1) ms)) ≤ times n ms
          → times n (map (λ (d : Deed). d.name) (with_found o (deeds (place + 1) ms) (λ i. with_deed m (asks (member_facts f s place i)) (deeds (place + 1) ms)))) ≤ (if bytes_eq m n then suc (times n ms) else times n ms)
      by_found None later = more (bytes_eq m n) (times n (map (λ (d : Deed). d.name) (deeds (place + 1) ms))) (times n ms) later
      by_found (Some i) later = by_step (asks (member_facts f s place i)) later

-- ---- what a deed may be asked for in a catalogue

abbrev facts_in : PlainCatalog → List HeldIndex
facts_in c = map (λ i. i.facts) c.indices

-- a window ends at an instant that isn't before its end, and is the last of its stream
pub record MayExtend (c : PlainCatalog) (n : List ℕ) (end : ℤ) : Type 0 where
  pub instant : IsInstant end
  pub sooner : (i : HeldIndex) → facts_named n (facts_in c) ≡ Some i → i.end ≤ℤ end
  pub last : Each (λ z. NotBefore n z.facts.members) c.streams

pub record MayStart (c : PlainCatalog) (n : List ℕ) (by : Interval) : Type 0 where
  pub fits : (i : HeldIndex) → facts_named n (facts_in c) ≡ Some i → interval_fault i.interval by ≡ None
  pub idle : times n (map task_index c.tasks) ≡ 0

abbrev MayAs : ℤ → PlainCatalog → List ℕ → Step → Type 0
MayAs end c n (Extend place later) = (later ≡ end) × MayExtend c n end
MayAs end c n (Delete place) = Each (λ z. is_write z n ≡ false) c.streams
MayAs end c n (Start place by) = MayStart c n by

-- ---- what a deed leaves for other members

pub record Leaves (n : List ℕ) (c d : PlainCatalog) : Type 0 where
  pub indices : (m : List ℕ) → bytes_eq n m ≡ false → facts_named m (facts_in d) ≡ facts_named m (facts_in c)
  pub tasks : (m : List ℕ) → bytes_eq n m ≡ false → times m (map task_index d.tasks) ≤ times m (map task_index c.tasks)
  pub written : (m : List ℕ) → Each (λ z. is_write z m ≡ false) c.streams → Each (λ z. is_write z m ≡ false) d.streams
  pub last : (m : List ℕ) → Each (λ z. NotBefore m z.facts.members) c.streams → Each (λ z. NotBefore m z.facts.members) d.streams
  pub apart : (z : PlainStream) → times n z.facts.members ≡ 0 → stream_named z.facts.name c.streams ≡ Some z → stream_named z.facts.name d.streams ≡ Some z

leaves_all : (n : List ℕ) (c : PlainCatalog) → Leaves n c c
leaves_all n c = record { indices = λ m other. refl; tasks = λ m other. omega arith; written = λ m e. e; last = λ m e. e; apart = λ z e found. found }

still_may : (end : ℤ) (n : List ℕ) (c d : PlainCatalog) → Leaves n c d → (m : List ℕ) (step : Step) → bytes_eq n m ≡ false → MayAs end c m step → MayAs end d m step
still_may end n c d leaves m (Extend place later) other may =
    (may.0, record { instant = may.1.instant; sooner = λ i found. may.1.sooner i (sym (leaves.indices m other) ∙ found); last = leaves.last m may.1.last })
still_may end n c d leaves m (Delete place) other may = leaves.written m may
still_may end n c d leaves m (Start place by) other may =
    record { fits = λ i found. may.fits i (sym (leaves.indices m other) ∙ found); idle = let less = leaves.tasks m other in let none = may.idle in omega (arith, less, none) }

-- ---- each deed

pub record Done (n : List ℕ) (c d : PlainCatalog) : Type 0 where
  pub sound : IsSoundCatalog d
  pub leaves : Leaves n c d

extend_done : (r : Running) (n : List ℕ) (end : ℤ) → MayExtend r.catalog n end → IsSoundCatalog r.catalog → Done n r.catalog (extended r n end).catalog
extend_done r n end may sound =
    let c = r.catalog in
    let grown : HeldIndex → HeldIndex = λ i. record i { end = end } in
    let facts : facts_in (extended r n end).catalog ≡ updated facts_name n grown (facts_in c) =
    updated-map (λ (i : PlainIndex). i.facts) index_name facts_name (λ i. refl) n (ends_at end) grown c.indices (λ i found. refl) in
    record {
      sound = extended-sound c n end may.instant may.sooner may.last sound;
      leaves = record {
        indices = λ m other. ap (facts_named m) facts ∙ named_updated facts_name n m grown (facts_in c) (λ i. refl) other;
        tasks = λ m other. omega arith;
        written = λ m e. e;
        last = λ m e. e;
        apart = λ z e found. found;
      };
    }

-- the last member stays the last one without another
last_same : (n : List ℕ) (ms : List (List ℕ)) → bytes_eq (with_found (last_of ms) [] (λ k. k)) n ≡ false → with_found (last_of (filter (λ m. not (bytes_eq m n)) ms)) [] (λ k. k) ≡ with_found (last_of ms) [] (λ k. k)
last_same n [] other = refl
last_same n (m ∷ []) other = ap (λ b. with_found (last_of (cond (not b) (m ∷ []) [])) [] (λ k. k)) other
last_same n (m ∷ k ∷ ms) other = by_test (bytes_eq m n) (last_same n (k ∷ ms) other) (last_kept n (k ∷ ms) (omega arith) other)
  where
    behind : (ys : List (List ℕ)) → 0 < length ys → with_found (last_of (m ∷ ys)) [] (λ j. j) ≡ with_found (last_of ys) [] (λ j. j)
    behind [] some = absurd (omega (arith, some))
    behind (y ∷ ys) some = refl

    by_test : (b : Bool) → with_found (last_of (filter (λ j. not (bytes_eq j n)) (k ∷ ms))) [] (λ j. j) ≡ with_found (last_of (k ∷ ms)) [] (λ j. j) → 0 < length (filter (λ j. not (bytes_eq j n)) (k ∷ ms))
        → with_found (last_of (cond (not b) (m ∷ filter (λ j. not (bytes_eq j n)) (k ∷ ms)) (filter (λ j. not (bytes_eq j n)) (k ∷ ms)))) [] (λ j. j) ≡ with_found (last_of (k ∷ ms)) [] (λ j. j)
    by_test true later some = later
    by_test false later some = behind (filter (λ j. not (bytes_eq j n)) (k ∷ ms)) some ∙ later

not_before-cons : (n m : List ℕ) (ys : List (List ℕ)) → bytes_eq m n ≡ false → NotBefore n ys → NotBefore n (m ∷ ys)
not_before-cons n m [] other before = tt
not_before-cons n m (y ∷ ys) other before = (other, before)

not_before-filter : (test : List ℕ → Bool) (n : List ℕ) (ms : List (List ℕ)) → NotBefore n ms → NotBefore n (filter test ms)
not_before-filter test n [] before = tt
not_before-filter test n (m ∷ []) before = by_test (test m)
  where
    by_test : (b : Bool) → NotBefore n (cond b (m ∷ []) [])
    by_test true = tt
    by_test false = tt
not_before-filter test n (m ∷ k ∷ ms) before = by_test (test m) (not_before-filter test n (k ∷ ms) before.1)
  where
    by_test : (b : Bool) → NotBefore n (filter test (k ∷ ms)) → NotBefore n (cond b (m ∷ filter test (k ∷ ms)) (filter test (k ∷ ms)))
    by_test true later = not_before-cons n m (filter test (k ∷ ms)) before.0 later
    by_test false later = later

-- a stream without the member stays
same_stream : (n : List ℕ) (z : PlainStream) → times n z.facts.members ≡ 0 → without_member n z ≡ z
same_stream n z none = ap (λ ms. record z { facts = record z.facts { members = ms } }) (go z.facts.members none)
  where
    go : (ms : List (List ℕ)) → times n ms ≡ 0 → filter (λ m. not (bytes_eq m n)) ms ≡ ms
    go [] none = refl
    go (m ∷ ms) none = let other = other_head n m ms none in ap (λ b. cond (not b) (m ∷ filter (λ k. not (bytes_eq k n)) ms) (filter (λ k. not (bytes_eq k n)) ms)) other.0 ∙ ap (λ ks. m ∷ ks) (go ms other.1)

delete_done : (r : Running) (n : List ℕ) → Each (λ z. is_write z n ≡ false) r.catalog.streams → IsSoundCatalog r.catalog → Done n r.catalog (deleted r n).catalog
delete_done r n others sound =
    let c = r.catalog in
    let facts : facts_in (deleted r n).catalog ≡ without facts_name n (facts_in c) = without-map (λ (i : PlainIndex). i.facts) index_name facts_name (λ i. refl) n c.indices in
    record {
      sound = index_deleted-sound c n others sound;
      leaves = record {
        indices = λ m other. ap (facts_named m) facts ∙ named_without facts_name n m (facts_in c) other;
        tasks = λ m other. times-filter task_index (λ t. not (bytes_eq (task_index t) n)) m c.tasks;
        written = λ m each. each_map (without_member n) (λ z. is_write z m ≡ false) c.streams
            (Each-both (λ z. is_write z n ≡ false) (λ z. is_write z m ≡ false) (λ z. is_write (without_member n z) m ≡ false)
            (λ z here it. ap (λ k. bytes_eq k m) (last_same n z.facts.members here) ∙ it) c.streams others each);
        last = λ m each. each_map (without_member n) (λ z. NotBefore m z.facts.members) c.streams
            (Each-weaker (λ z. NotBefore m z.facts.members) (λ z. NotBefore m (without_member n z).facts.members) (λ z before. not_before-filter (λ k. not (bytes_eq k n)) m z.facts.members before) c.streams each);
        apart = λ z none found. named-map (without_member n) stream_name stream_name (λ y. refl) z.facts.name c.streams ∙ (ap (option_map (without_member n)) found ∙ ap (λ y. Some y) (same_stream n z none));
      };
    }

start_done : (r : Running) (n : List ℕ) (by : Interval) → MayStart r.catalog n by → IsSoundCatalog r.catalog → Done n r.catalog (start_at r n by).catalog
start_done r n by may sound = by_found (index_named n r.catalog.indices) refl
  where
    begun : (i : PlainIndex) → index_named n r.catalog.indices ≡ Some i → is_taken (new_task i by).target (facts_of r.catalog) ≡ false → Done n r.catalog (started r i by).catalog
    begun i found free =
        let c = r.catalog in
        let name : i.facts.name ≡ n = (bytes_eq-Decides i.facts.name n).0 (found_name index_name n c.indices i found) in
        let here : index_named i.facts.name c.indices ≡ Some i = ap (λ k. index_named k c.indices) name ∙ found in
        let shut : HeldIndex → HeldIndex = λ j. record j { blocked = true } in
        let facts : facts_in (started r i by).catalog ≡ updated facts_name i.facts.name shut (facts_in c) =
        updated-map (λ (j : PlainIndex). j.facts) index_name facts_name (λ j. refl) i.facts.name blocked_index shut c.indices (λ j at. refl) in
        record {
          sound = started-sound r i by here (may.fits i.facts (facts_named-facts n c.indices ∙ ap (option_map (λ (j : PlainIndex). j.facts)) found))
              (subst (λ k. times k (map task_index c.tasks) ≡ 0) (sym name) may.idle) free sound;
          leaves = record {
            indices = λ m other. ap (facts_named m) facts ∙ named_updated facts_name i.facts.name m shut (facts_in c) (λ j. refl) (ap (λ k. bytes_eq k m) name ∙ other);
            tasks = λ m other.
                let same : times m (map task_index (c.tasks ++ new_task i by ∷ [])) ≡ times m (map task_index c.tasks ++ i.facts.name ∷ []) = ap (times m) (map-end task_index c.tasks (new_task i by)) in
                let both = times-append m (map task_index c.tasks) (i.facts.name ∷ []) in
                let none : times m (i.facts.name ∷ []) ≡ 0 = ap (λ b. if b then suc zero else zero) (ap (λ k. bytes_eq k m) name ∙ other) in
                omega (arith, same, both, none);
            written = λ m e. e;
            last = λ m e. e;
            apart = λ z e there. there;
          };
        }

    by_taken : (i : PlainIndex) → index_named n r.catalog.indices ≡ Some i → (b : Bool) → is_taken (downsample_name by i.facts.origin) (facts_of r.catalog) ≡ b → Done n r.catalog (if b then r else started r i by).catalog
    by_taken i found true is = record { sound = sound; leaves = leaves_all n r.catalog }
    by_taken i found false is = begun i found is

    by_found : (o : Option PlainIndex) → index_named n r.catalog.indices ≡ o → Done n r.catalog (with_found o r (λ i. started_if_free r i by)).catalog
    by_found None found = record { sound = sound; leaves = leaves_all n r.catalog }
    by_found (Some i) found = by_taken i found (is_taken (downsample_name by i.facts.origin) (facts_of r.catalog)) refl

deed_done : (end : ℤ) (r : Running) (n : List ℕ) (step : Step) → MayAs end r.catalog n step → IsSoundCatalog r.catalog → Done n r.catalog (done_as n r step).catalog
deed_done end r n (Extend place later) may sound = subst (λ e. Done n r.catalog (extended r n e).catalog) (sym may.0) (extend_done r n end may.1 sound)
deed_done end r n (Delete place) may sound = delete_done r n may sound
deed_done end r n (Start place by) may sound = start_done r n by may sound

-- ---- all deeds, of different members

abbrev names_in : List Deed → List (List ℕ)
names_in ds = map (λ (d : Deed). d.name) ds

others_differ : (n : List ℕ) (ds : List Deed) → times n (names_in ds) ≡ 0 → Each (λ (d : Deed). bytes_eq n d.name ≡ false) ds
others_differ n [] none = tt
others_differ n (d ∷ ds) none = let other = other_head n d.name (names_in ds) none in (bytes_eq-sym n d.name ∙ other.0, others_differ n ds other.1)

-- what deeds leave for members that have none of them
pub record LeavesMany (ns : List (List ℕ)) (c d : PlainCatalog) : Type 0 where
  pub sound : IsSoundCatalog d
  pub indices : (m : List ℕ) → times m ns ≡ 0 → facts_named m (facts_in d) ≡ facts_named m (facts_in c)
  pub tasks : (m : List ℕ) → times m ns ≡ 0 → times m (map task_index d.tasks) ≤ times m (map task_index c.tasks)
  pub written : (m : List ℕ) → Each (λ z. is_write z m ≡ false) c.streams → Each (λ z. is_write z m ≡ false) d.streams
  pub last : (m : List ℕ) → Each (λ z. NotBefore m z.facts.members) c.streams → Each (λ z. NotBefore m z.facts.members) d.streams
  pub apart : (z : PlainStream) → Each (λ n. times n z.facts.members ≡ 0) ns → stream_named z.facts.name c.streams ≡ Some z → stream_named z.facts.name d.streams ≡ Some z

all_done : (end : ℤ) (r : Running) (ds : List Deed) → AreOnce (names_in ds) → Each (λ (d : Deed). MayAs end r.catalog d.name d.step) ds → IsSoundCatalog r.catalog → LeavesMany (names_in ds) r.catalog (done_deeds r ds).catalog
all_done end r [] once may sound = record { sound = sound; indices = λ m none. refl; tasks = λ m none. omega arith; written = λ m e. e; last = λ m e. e; apart = λ z each found. found }
all_done end r (d ∷ ds) once may sound =
    let q = done_as d.name r d.step in
    let one = deed_done end r d.name d.step may.0 sound in
    let first : times d.name (names_in (d ∷ ds)) ≡ suc (times d.name (names_in ds)) = ap (λ b. if b then suc (times d.name (names_in ds)) else times d.name (names_in ds)) (bytes_eq-itself d.name) in
    let none : times d.name (names_in ds) ≡ 0 = let few = once d.name in omega (arith, first, few) in
    let left : Each (λ (e : Deed). MayAs end q.catalog e.name e.step) ds =
    Each-both (λ (e : Deed). bytes_eq d.name e.name ≡ false) (λ (e : Deed). MayAs end r.catalog e.name e.step) (λ (e : Deed). MayAs end q.catalog e.name e.step)
    (λ e other it. still_may end d.name r.catalog q.catalog one.leaves e.name e.step other it) ds (others_differ d.name ds none) may.1 in
    let rest = all_done end q ds (λ n. let few = once n in let less = tail_times n d.name (names_in ds) in omega (arith, few, less)) left one.sound in
    record {
      sound = rest.sound;
      indices = λ m nowhere. let other = other_head m d.name (names_in ds) nowhere in rest.indices m other.1 ∙ one.leaves.indices m other.0;
      tasks = λ m nowhere. let other = other_head m d.name (names_in ds) nowhere in let a = rest.tasks m other.1 in let b = one.leaves.tasks m other.0 in omega (arith, a, b);
      written = λ m e. rest.written m (one.leaves.written m e);
      last = λ m e. rest.last m (one.leaves.last m e);
      apart = λ z each found. rest.apart z each.1 (one.leaves.apart z each.0 found);
    }
  where
    tail_times : (n x : List ℕ) (xs : List (List ℕ)) → times n xs ≤ times n (x ∷ xs)
    tail_times n x xs = by_test (bytes_eq x n)
      where
        by_test : (b : Bool) → times n xs ≤ (if b then suc (times n xs) else times n xs)
        by_test true = omega arith
        by_test false = omega arith

still_many : (end : ℤ) (ns : List (List ℕ)) (c d : PlainCatalog) → LeavesMany ns c d → (m : List ℕ) (step : Step) → times m ns ≡ 0 → MayAs end c m step → MayAs end d m step
still_many end ns c d leaves m (Extend place later) none may =
    (may.0, record { instant = may.1.instant; sooner = λ i found. may.1.sooner i (sym (leaves.indices m none) ∙ found); last = leaves.last m may.1.last })
still_many end ns c d leaves m (Delete place) none may = leaves.written m may
still_many end ns c d leaves m (Start place by) none may =
    record { fits = λ i found. may.fits i (sym (leaves.indices m none) ∙ found); idle = let less = leaves.tasks m none in let zero_before = may.idle in omega (arith, less, zero_before) }

-- ---- the members of one stream

named_members : (n k : List ℕ) (ss : List PlainStream) (z : PlainStream) → stream_named k ss ≡ Some z → times n z.facts.members ≤ times n (all_members ss)
named_members n k [] z found = absurd (none_not_some found)
named_members n k (x ∷ xs) z found = by_test (bytes_eq x.facts.name k) found (named_members n k xs z)
  where
    by_test : (b : Bool) → (if b then Some x else stream_named k xs) ≡ Some z → (stream_named k xs ≡ Some z → times n z.facts.members ≤ times n (all_members xs)) → times n z.facts.members ≤ times n (x.facts.members ++ all_members xs)
    by_test true found later =
        let same : times n x.facts.members ≡ times n z.facts.members = ap (λ (y : PlainStream). times n y.facts.members) (some_is found) in
        let both = times-append n x.facts.members (all_members xs) in omega (arith, same, both)
    by_test false found later = let less = later found in let both = times-append n x.facts.members (all_members xs) in omega (arith, less, both)

write_counted : (ms : List (List ℕ)) → 0 < length ms → 1 ≤ times (with_found (last_of ms) [] (λ k. k)) ms
write_counted [] some = absurd (omega (arith, some))
write_counted (m ∷ []) some = by_test (bytes_eq m m) (bytes_eq-itself m)
  where
    by_test : (b : Bool) → b ≡ true → 1 ≤ (if b then suc 0 else 0)
    by_test true is = omega arith
    by_test false is = cc
write_counted (m ∷ k ∷ ms) some = by_test (bytes_eq m (with_found (last_of (k ∷ ms)) [] (λ j. j))) (write_counted (k ∷ ms) (omega arith))
  where
    w : List ℕ
    w = with_found (last_of (k ∷ ms)) [] (λ j. j)

    by_test : (b : Bool) → 1 ≤ times w (k ∷ ms) → 1 ≤ (if b then suc (times w (k ∷ ms)) else times w (k ∷ ms))
    by_test true later = omega arith
    by_test false later = later

not_before_none : (n : List ℕ) (ms : List (List ℕ)) → times n ms ≡ 0 → NotBefore n ms
not_before_none n [] none = tt
not_before_none n (m ∷ []) none = tt
not_before_none n (m ∷ k ∷ ms) none = let other = other_head n m (k ∷ ms) none in (other.0, not_before_none n (k ∷ ms) other.1)

not_before_last : (n : List ℕ) (ms : List (List ℕ)) → times n ms ≤ 1 → bytes_eq (with_found (last_of ms) [] (λ k. k)) n ≡ true → NotBefore n ms
not_before_last n [] few is = tt
not_before_last n (m ∷ []) few is = tt
not_before_last n (m ∷ k ∷ ms) few is = by_test (bytes_eq m n) refl few (not_before_last n (k ∷ ms))
  where
    counted : 1 ≤ times n (k ∷ ms)
    counted = subst (λ x. 1 ≤ times x (k ∷ ms)) ((bytes_eq-Decides (with_found (last_of (k ∷ ms)) [] (λ j. j)) n).0 is) (write_counted (k ∷ ms) (omega arith))

    by_test : (b : Bool) → bytes_eq m n ≡ b → (if b then suc (times n (k ∷ ms)) else times n (k ∷ ms)) ≤ 1 → (times n (k ∷ ms) ≤ 1 → bytes_eq (with_found (last_of (k ∷ ms)) [] (λ j. j)) n ≡ true → NotBefore n (k ∷ ms)) → (bytes_eq m n ≡ false) × NotBefore n (k ∷ ms)
    by_test true same few later = let some = counted in absurd (omega (arith, few, some))
    by_test false same few later = (same, later few is)

module _ (c : PlainCatalog) (s : PlainStream) (sound : IsSoundCatalog c) (found : stream_named s.facts.name c.streams ≡ Some s) where
  -- another stream has none of its members
  others_apart : (z : PlainStream) → stream_named z.facts.name c.streams ≡ Some z → bytes_eq s.facts.name z.facts.name ≡ false → (n : List ℕ) → 1 ≤ times n s.facts.members → times n z.facts.members ≡ 0
  others_apart z there other n some =
      let apart = members_apart n s.facts.name c.streams s found in
      let less = named_members n z.facts.name (without stream_name s.facts.name c.streams) z (named_without stream_name s.facts.name z.facts.name c.streams other ∙ there) in
      let once = sound.facts.members_once n in
      omega (arith, apart, less, once, some)

  once_here : (n : List ℕ) → times n s.facts.members ≤ 1
  once_here n = let less = named_members n s.facts.name c.streams s found in let once = sound.facts.members_once n in omega (arith, less, once)

  -- what holds of the stream and of those that don't have the member holds of all
  of_all : (P : PlainStream → Type 0) (n : List ℕ) → 1 ≤ times n s.facts.members → P s → ((z : PlainStream) → 0 < length z.facts.members → times n z.facts.members ≡ 0 → P z) → Each P c.streams
  of_all P n some mine theirs =
      Each-both (IsStreamSound (facts_of c)) (λ z. stream_named z.facts.name c.streams ≡ Some z) P (λ z is there. by_test z is there (bytes_eq s.facts.name z.facts.name) refl) c.streams sound.facts.streams (all_found stream_name c.streams sound.facts.stream_order)
    where
      by_test : (z : PlainStream) → IsStreamSound (facts_of c) z → stream_named z.facts.name c.streams ≡ Some z → (b : Bool) → bytes_eq s.facts.name z.facts.name ≡ b → P z
      by_test z is there true same = subst P (some_is (sym found ∙ (ap (λ k. stream_named k c.streams) ((bytes_eq-Decides s.facts.name z.facts.name).0 same) ∙ there))) mine
      by_test z is there false other = theirs z is.some (others_apart z there other n some)

  not_written : (n : List ℕ) → 1 ≤ times n s.facts.members → is_write s n ≡ false → Each (λ z. is_write z n ≡ false) c.streams
  not_written n some mine = of_all (λ z. is_write z n ≡ false) n some mine (λ z nonempty none. false_from_ne_true (is_write z n) (λ is. no_write z nonempty none is))
    where
      no_write : (z : PlainStream) → 0 < length z.facts.members → times n z.facts.members ≡ 0 → is_write z n ≡ true → ⊥
      no_write z nonempty none is =
          let some_there : 1 ≤ times n z.facts.members = subst (λ k. 1 ≤ times k z.facts.members) ((bytes_eq-Decides (write_name z) n).0 is) (write_counted z.facts.members nonempty) in
          omega (arith, none, some_there)

  stands_last : (n : List ℕ) → 1 ≤ times n s.facts.members → is_write s n ≡ true → Each (λ z. NotBefore n z.facts.members) c.streams
  stands_last n some is =
      of_all (λ z. NotBefore n z.facts.members) n some (not_before_last n s.facts.members (once_here n) is) (λ z nonempty none. not_before_none n z.facts.members none)

-- ---- what a plan asks for may be done

if_so-some : (b : Bool) (asked step : Step) → if_so b asked ≡ Some step → (b ≡ true) × (asked ≡ step)
if_so-some true asked step is = (refl, some_is is)
if_so-some false asked step is = absurd (none_not_some is)

int_before : (a b : ℤ) → int_lt a b ≡ true → a ≤ℤ b
int_before a b is = let less = lt_z_yes {a = a} {b = b} (subst T (sym is) tt) in omega (arith, ints, less)

idle_of : (n : List ℕ) (ts : List TaskFacts) → list_any (λ t. bytes_eq t.index n) ts ≡ false → times n (map task_index ts) ≡ 0
idle_of n [] none = refl
idle_of n (t ∷ ts) none = by_test (bytes_eq t.index n) none (idle_of n ts)
  where
    by_test : (b : Bool) → (b || list_any (λ u. bytes_eq u.index n) ts) ≡ false → (list_any (λ u. bytes_eq u.index n) ts ≡ false → times n (map task_index ts) ≡ 0) → (if b then suc (times n (map task_index ts)) else times n (map task_index ts)) ≡ 0
    by_test true none later = cc
    by_test false none later = later none

none_of : {A : Type 0} (o : Option A) → is_none o ≡ true → o ≡ None
none_of None is = refl
none_of (Some a) is = cc

-- a deed of a member of the stream, which is its write index or not
pub record IsDue (end : ℤ) (c : PlainCatalog) (s : PlainStream) (write : Bool) (place : ℕ) (d : Deed) : Type 0 where
  pub place_is : place_of d.step ≡ place
  pub may : MayAs end c d.name d.step
  pub is_so : is_write s d.name ≡ write
  pub among : 1 ≤ times d.name s.facts.members

-- the same, with its place among the members
pub record IsFit (end : ℤ) (c : PlainCatalog) (s : PlainStream) (write : Bool) (d : Deed) : Type 0 where
  pub placed : IsPlaced s.facts.members d
  pub may : MayAs end c d.name d.step
  pub is_so : is_write s d.name ≡ write
  pub among : 1 ≤ times d.name s.facts.members

-- a run over one stream leaves a sound catalogue, and the other streams
pub record IsRun (s : PlainStream) (c d : PlainCatalog) : Type 0 where
  pub sound : IsSoundCatalog d
  pub others : (z : PlainStream) → stream_named z.facts.name c.streams ≡ Some z → bytes_eq s.facts.name z.facts.name ≡ false → stream_named z.facts.name d.streams ≡ Some z

module _ (c : PlainCatalog) (s : PlainStream) (sound : IsSoundCatalog c) (found : stream_named s.facts.name c.streams ≡ Some s) (now look_ahead : ℤ) where
  abbrev end : ℤ
  end = end_after now look_ahead

  abbrev f : PlainFacts
  f = facts_of c

  named_so : (m : List ℕ) (i : HeldIndex) → facts_named m f.indices ≡ Some i → i.name ≡ m
  named_so m i there = (bytes_eq-Decides i.name m).0 (found_name facts_name m f.indices i there)

  extension_due : (place : ℕ) (m : List ℕ) (i : HeldIndex) (step : Step) → 1 ≤ times m s.facts.members → facts_named m f.indices ≡ Some i → extension now look_ahead (member_facts f s place i) ≡ Some step → IsDue end c s true place (record { name = m; step = step })
  extension_due place m i step some there is =
      let told = if_so-some (is_write s i.name && int_lt i.end end) (Extend place end) step is in
      let both = and_parts (is_write s i.name) (int_lt i.end end) told.0 in
      let write : is_write s m ≡ true = ap (is_write s) (sym (named_so m i there)) ∙ both.0 in
      let may : MayExtend c m end = record {
        instant = ends_is (now +ℤ look_ahead);
        sooner = λ j at. subst (λ (k : HeldIndex). k.end ≤ℤ end) (some_is (sym there ∙ at)) (int_before i.end end both.1);
        last = stands_last c s sound found m some write;
      } in
      subst (λ st. IsDue end c s true place (record { name = m; step = st })) told.1 (record { place_is = refl; may = (refl, may); is_so = write; among = some })

  aged_due : (life : Lifecycle) (place : ℕ) (m : List ℕ) (i : HeldIndex) (step : Step) → 1 ≤ times m s.facts.members → facts_named m f.indices ≡ Some i → is_write s m ≡ false →
      aged_step life (member_facts f s place i) (now -ℤ i.end) ≡ Some step → IsDue end c s false place (record { name = m; step = step })
  aged_due life place m i step some there write is = by_over (is_over life.retention (now -ℤ i.end)) is
    where
      by_round : (o : Option Round) → start_step (member_facts f s place i) o ≡ Some step → IsDue end c s false place (record { name = m; step = step })
      by_round None is = absurd (none_not_some is)
      by_round (Some round) is =
          let told = if_so-some (not (list_any (λ t. bytes_eq t.index i.name) f.tasks) && is_none (interval_fault i.interval round.by)) (Start place round.by) step is in
          let both = and_parts (not (list_any (λ t. bytes_eq t.index i.name) f.tasks)) (is_none (interval_fault i.interval round.by)) told.0 in
          let may : MayStart c m round.by = record {
            fits = λ j at. subst (λ (k : HeldIndex). interval_fault k.interval round.by ≡ None) (some_is (sym there ∙ at)) (none_of (interval_fault i.interval round.by) both.1);
            idle = subst (λ k. times k (map task_index c.tasks) ≡ 0) (named_so m i there) (idle_of i.name c.tasks (not-true (list_any (λ t. bytes_eq t.index i.name) f.tasks) both.0));
          } in
          subst (λ st. IsDue end c s false place (record { name = m; step = st })) told.1 (record { place_is = refl; may = may; is_so = write; among = some })

      by_over : (b : Bool) → (if b then Some (Delete place) else start_step (member_facts f s place i) (round_at life.rounds (now -ℤ i.end))) ≡ Some step → IsDue end c s false place (record { name = m; step = step })
      by_over true is = subst (λ st. IsDue end c s false place (record { name = m; step = st })) (some_is is) (record { place_is = refl; may = not_written c s sound found m some write; is_so = write; among = some })
      by_over false is = by_round (round_at life.rounds (now -ℤ i.end)) is

  member_due : (life : Lifecycle) (place : ℕ) (m : List ℕ) (i : HeldIndex) (step : Step) → 1 ≤ times m s.facts.members → facts_named m f.indices ≡ Some i → member_step now life (member_facts f s place i) ≡ Some step → IsDue end c s false place (record { name = m; step = step })
  member_due life place m i step some there is = by_tests (is_write s i.name) (int_lt now i.end) refl is
    where
      by_tests : (a b : Bool) → is_write s i.name ≡ a → (if a || b then None else aged_step life (member_facts f s place i) (now -ℤ i.end)) ≡ Some step → IsDue end c s false place (record { name = m; step = step })
      by_tests true b write is = absurd (none_not_some is)
      by_tests false true write is = absurd (none_not_some is)
      by_tests false false write is = aged_due life place m i step some there (ap (is_write s) (sym (named_so m i there)) ∙ write) is

  fit_deeds : (asks : IndexFacts → Option Step) (write : Bool) →
      ((place : ℕ) (m : List ℕ) (i : HeldIndex) (step : Step) → 1 ≤ times m s.facts.members → facts_named m f.indices ≡ Some i → asks (member_facts f s place i) ≡ Some step → IsDue end c s write place (record { name = m; step = step })) →
      Each (IsFit end c s write) (deeds asks f s 0 s.facts.members)
  fit_deeds asks write due =
      deeds_each asks f s (IsDue end c s write) (λ m. 1 ≤ times m s.facts.members) due (IsFit end c s write) 0 s.facts.members
      (λ k m step at is. record { placed = ap (slice_get s.facts.members) (is.place_is ∙ plain k) ∙ at; may = is.may; is_so = is.is_so; among = is.among }) (counted_all s.facts.members)
    where
      plain : (k : ℕ) → 0 + k ≡ k
      plain k = omega arith

  once_deeds : (asks : IndexFacts → Option Step) → AreOnce (names_in (deeds asks f s 0 s.facts.members))
  once_deeds asks n = let less = deeds-times asks f s n 0 s.facts.members in let once = once_here c s sound found n in omega (arith, less, once)

  no_common : (m : List ℕ) (ds : List Deed) → is_write s m ≡ false → Each (IsFit end c s true) ds → times m (names_in ds) ≡ 0
  no_common m [] other each = refl
  no_common m (d ∷ ds) other each = by_test (bytes_eq d.name m) refl (no_common m ds other each.1)
    where
      by_test : (b : Bool) → bytes_eq d.name m ≡ b → times m (names_in ds) ≡ 0 → (if b then suc (times m (names_in ds)) else times m (names_in ds)) ≡ 0
      by_test true same later = absurd (both_ways (is_write s m) other (ap (is_write s) (sym ((bytes_eq-Decides d.name m).0 same)) ∙ each.0.is_so))
      by_test false same later = later

  apart_names : (z : PlainStream) → stream_named z.facts.name c.streams ≡ Some z → bytes_eq s.facts.name z.facts.name ≡ false → (write : Bool) (ds : List Deed) → Each (IsFit end c s write) ds → Each (λ n. times n z.facts.members ≡ 0) (names_in ds)
  apart_names z there other write [] each = tt
  apart_names z there other write (d ∷ ds) each = (others_apart c s sound found z there other d.name each.0.among, apart_names z there other write ds each.1)

-- ---- a run over one stream

plan_run : (r : Running) (s : PlainStream) (now look_ahead : ℤ) (life : Option Lifecycle) → IsSoundCatalog r.catalog → stream_named s.facts.name r.catalog.streams ≡ Some s →
    IsRun s r.catalog (run_steps s.facts.members r (plan_of now look_ahead life (facts_from (facts_of r.catalog) s 0 s.facts.members))).catalog
plan_run r s now look_ahead life sound found =
    let c = r.catalog in
    let f = facts_of r.catalog in
    let until = end_after now look_ahead in
    let ms = s.facts.members in
    let asks = extension now look_ahead in
    let first = deeds asks f s 0 ms in
    let fit_first = fit_deeds c s sound found now look_ahead asks true (extension_due c s sound found now look_ahead) in
    let leaves_first = all_done until r first (once_deeds c s sound found now look_ahead asks) (Each-weaker (IsFit until c s true) (λ (d : Deed). MayAs until c d.name d.step) (λ d is. is.may) first fit_first) sound in
    let steps_first : run_steps ms r (filter_map asks (facts_from f s 0 ms)) ≡ done_deeds r first =
    ap (run_steps ms r) (deeds-steps asks f s 0 ms) ∙ done_deeds-are ms r first (Each-weaker (IsFit until c s true) (IsPlaced ms) (λ d is. is.placed) first fit_first) in
    by_life life first fit_first leaves_first steps_first
  where
    by_life : (o : Option Lifecycle) (first : List Deed) → Each (IsFit (end_after now look_ahead) r.catalog s true) first → LeavesMany (names_in first) r.catalog (done_deeds r first).catalog →
        run_steps s.facts.members r (filter_map (extension now look_ahead) (facts_from (facts_of r.catalog) s 0 s.facts.members)) ≡ done_deeds r first →
        IsRun s r.catalog (run_steps s.facts.members r (plan_of now look_ahead o (facts_from (facts_of r.catalog) s 0 s.facts.members))).catalog
    by_life None first fit_first leaves_first steps_first =
        subst (λ (q : Running). IsRun s r.catalog q.catalog) (sym (run_steps-append s.facts.members r (filter_map (extension now look_ahead) (facts_from (facts_of r.catalog) s 0 s.facts.members)) [] ∙ steps_first))
        (record { sound = leaves_first.sound; others = λ z there other. leaves_first.apart z (apart_names r.catalog s sound found now look_ahead z there other true first fit_first) there })
    by_life (Some lived) first fit_first leaves_first steps_first =
        let c = r.catalog in
        let f = facts_of r.catalog in
        let until = end_after now look_ahead in
        let ms = s.facts.members in
        let asks = member_step now lived in
        let second = deeds asks f s 0 ms in
        let run = done_deeds r first in
        let fit_second = fit_deeds c s sound found now look_ahead asks false (member_due c s sound found now look_ahead lived) in
        let leaves_second = all_done until run second (once_deeds c s sound found now look_ahead asks)
        (Each-weaker (IsFit until c s false) (λ (d : Deed). MayAs until run.catalog d.name d.step)
        (λ d is. still_many until (names_in first) c run.catalog leaves_first d.name d.step (no_common c s sound found now look_ahead d.name first is.is_so fit_first) is.may) second fit_second) leaves_first.sound in
        let steps : run_steps ms r (filter_map (extension now look_ahead) (facts_from f s 0 ms) ++ filter_map asks (facts_from f s 0 ms)) ≡ done_deeds run second =
        run_steps-append ms r (filter_map (extension now look_ahead) (facts_from f s 0 ms)) (filter_map asks (facts_from f s 0 ms))
        ∙ (ap (λ (q : Running). run_steps ms q (filter_map asks (facts_from f s 0 ms))) steps_first
        ∙ (ap (run_steps ms run) (deeds-steps asks f s 0 ms)
        ∙ done_deeds-are ms run second (Each-weaker (IsFit until c s false) (IsPlaced ms) (λ d is. is.placed) second fit_second))) in
        subst (λ (q : Running). IsRun s r.catalog q.catalog) (sym steps)
        (record {
          sound = leaves_second.sound;
          others = λ z there other. leaves_second.apart z (apart_names c s sound found now look_ahead z there other false second fit_second)
              (leaves_first.apart z (apart_names c s sound found now look_ahead z there other true first fit_first) there);
        })

stream_run : (now : ℤ) (r : Running) (s : PlainStream) → IsSoundCatalog r.catalog → stream_named s.facts.name r.catalog.streams ≡ Some s → IsRun s r.catalog (run_stream now r s).catalog
stream_run now r s sound found = by_template (template_named s.facts.template r.catalog.templates)
  where
    by_template : (o : Option Template) → IsRun s r.catalog (run_steps s.facts.members r (with_found o [] (λ t. plan_of now t.look_ahead s.life (facts_from (facts_of r.catalog) s 0 s.facts.members)))).catalog
    by_template None = record { sound = sound; others = λ z there other. there }
    by_template (Some t) = plan_run r s now t.look_ahead s.life sound found

-- ---- over all streams

streams_run : (now : ℤ) (r : Running) (ss : List PlainStream) → IsSoundCatalog r.catalog → Each (λ z. stream_named z.facts.name r.catalog.streams ≡ Some z) ss → KeysAscend (map stream_name ss) → IsSoundCatalog (run_streams now r ss).catalog
streams_run now r [] sound each ascend = sound
streams_run now r (s ∷ ss) sound each ascend =
    let ran = stream_run now r s sound each.0 in
    streams_run now (run_stream now r s) ss ran.sound
    (Each-both (λ z. IsBefore s.facts.name z.facts.name) (λ z. stream_named z.facts.name r.catalog.streams ≡ Some z) (λ z. stream_named z.facts.name (run_stream now r s).catalog.streams ≡ Some z)
    (λ z before there. ran.others z there (before_apart s.facts.name z.facts.name before)) ss (each_of_map stream_name (IsBefore s.facts.name) ss ascend.0) each.1) ascend.1

pub runs_keep_sound : RunsKeepSound
unfolding lifecycle_run
runs_keep_sound c now sound =
    streams_run now (record { catalog = c; ran = record { extended = 0; deleted = 0; started = 0 } }) c.streams sound (all_found stream_name c.streams sound.facts.stream_order) sound.facts.stream_order
