-- What tasks keep stays with each change.
use Rattle.std.specs.Prelude.{◌≡◌, ◌⊎◌, ℕ, ℤ, ◌==◌, Bool, not, true, false, if◌then◌else◌, List, [], ◌∷◌, map, filter, length, Option, None, Some, bytes_eq}
use Rattle.std.specs.List.{slice_get}
use Rattle.std.specs.Option.{option_map}
use Rattle.std.proofs.Common.{refl, ap, ◌∙◌, sym, subst, inl, inr}
use Rattle.std.proofs.lemmas.Bool.{both_ways}
use Rattle.std.proofs.lemmas.Slice.Eq.{bytes_eq-Decides}
use Rattle.row_cells.specs.Each.{Each}
use Rattle.row_cells.specs.EachLaws.{Each-all, Each-weaker, Each-filter}
use Rattle.row_cells.specs.declared.rows.Row.{Row}
use Rattle.downsample_fold.specs.Direct.{down}
use Rattle.downsample_fold.specs.Laws.{series_of, rows_of_first}
use Rattle.downsample_fold.specs.Places.{has_key}
use Rattle.lifecycle_swap.specs.declared.planning.Step.{Step}
use Rattle.lifecycle_swap.specs.declared.planning.Step.TheVariants.{Extend, Delete, Start}
use Rattle.index_names.specs.Backing.{downsample_name}
use Rattle.lifecycle_swap.specs.Ends.{end_after}
use Rattle.time_text.specs.Interval.{ms_of}
use Rattle.time_text.specs.declared.intervals.Interval.{Interval}
use Rattle.ts_mapping.specs.declared.templates.Mapping.{Mapping}
use Rattle.ts_mapping.specs.declared.templates.Template.{Template}
use Rattle.stream_catalog.specs.declared.facts.TaskFacts.{TaskFacts}
use Rattle.stream_catalog.specs.Plain.{PlainIndex, PlainStream, PlainCatalog, facts_of}
use Rattle.stream_catalog.specs.Ways.{Way, task_schema, kept_rows}
use Rattle.stream_catalog.specs.Lists.{with_found, updated, inserted, without, index_name, stream_name, facts_named, index_named, stream_named, template_named}
use Rattle.stream_catalog.specs.Names.{is_taken, template_for}
use Rattle.stream_catalog.specs.Streams.{template_put, life_set, first_name, first_start, new_index, new_stream, create_refusal, created, has_member, stream_deleted, write_name, next_name, next_index, with_next, rollover_refusal, rolled_over}
use Rattle.stream_catalog.specs.Indices.{blocked_index, blocked_in, folded_index, downsample_refusal, downsampled, task_index, index_deleted}
use Rattle.stream_catalog.specs.Moves.{moved_all}
use Rattle.stream_catalog.specs.Puts.{put_into}
use Rattle.stream_catalog.specs.Runs.{Running, ends_at, extended, deleted, new_task, started, started_if_free, start_at, run_step, run_steps, stream_plan, run_stream, run_streams, lifecycle_run}
use Rattle.stream_catalog.specs.Units.{swapped, next_done, advanced_at, unit_from, unit_of}
use Rattle.stream_catalog.specs.Laws.{TakesRow, KeepsTasks, IsOneOf, TaskRowsStay}
use Rattle.stream_catalog.specs.Sound.{times, IsTaskOf, IsSoundCatalog}
use Rattle.stream_catalog.proofs.NamedLemmas.{none_not_some, some_is, each_found, found_name, named_inserted, named_updated, named_updated_here}
use Rattle.stream_catalog.proofs.CountLemmas.{some_named, apart_of}
use Rattle.stream_catalog.proofs.ChangeLemmas.{facts_named-facts}
use Rattle.stream_catalog.proofs.CatalogLemmas.{may_downsample}
use Rattle.stream_catalog.proofs.AddedLemmas.{alone_of}
use Rattle.stream_catalog.proofs.DownsampleLemmas.{names_same}
use Rattle.stream_catalog.proofs.KeptLemmas.{each_passes, named_kept}
use Rattle.stream_catalog.proofs.NewLemmas.{may_create}
use Rattle.stream_catalog.proofs.PutLemmas.{not_taken}
use Rattle.stream_catalog.proofs.RollLemmas.{each_end, may_roll}
use Rattle.stream_catalog.proofs.UnitLemmas.{swap_told}

-- ---- indices with the same rows, mapped alike

record SameRows (i j : PlainIndex) : Type 0 where
  rows : j.rows ≡ i.rows
  mapping : j.facts.mapping ≡ i.facts.mapping

kept_same : (t : TaskFacts) (i j : PlainIndex) → SameRows i j → kept_rows t j ≡ kept_rows t i
kept_same t i j same =
    ap (λ (m : Mapping). down (record m.schema { rises = t.rises }) (rows_of_first t.done j.rows) (ms_of t.by)) same.mapping
    ∙ ap (λ rows. down (task_schema t i.facts) (rows_of_first t.done rows) (ms_of t.by)) same.rows

-- what has a name comes from what had it
record From (is : List PlainIndex) (n : List ℕ) (j : PlainIndex) : Type 0 where
  before : PlainIndex
  there : index_named n is ≡ Some before
  same : SameRows before j

abbrev AllFrom : List PlainIndex → List PlainIndex → Type 0
AllFrom is js = (n : List ℕ) (j : PlainIndex) → index_named n js ≡ Some j → From is n j

keeps_from : (c d : PlainCatalog) → AllFrom c.indices d.indices → KeepsTasks c d
keeps_from c d from = Each-all (λ t. (i j : PlainIndex) → index_named t.index c.indices ≡ Some i → index_named t.index d.indices ≡ Some j → kept_rows t j ≡ kept_rows t i) one c.tasks
  where
    one : (t : TaskFacts) (i j : PlainIndex) → index_named t.index c.indices ≡ Some i → index_named t.index d.indices ≡ Some j → kept_rows t j ≡ kept_rows t i
    one t i j old new =
        let came = from t.index j new in
        kept_same t i j (subst (λ k. SameRows k j) (some_is (sym came.there ∙ old)) came.same)

from_itself : (is : List PlainIndex) → AllFrom is is
from_itself is n j there = record { before = j; there = there; same = record { rows = refl; mapping = refl } }

keeps_itself : (c : PlainCatalog) → KeepsTasks c c
keeps_itself c = keeps_from c c (from_itself c.indices)

from_joined : (is js ks : List PlainIndex) → AllFrom is js → AllFrom js ks → AllFrom is ks
from_joined is js ks first second n k there =
    let later = second n k there in
    let sooner = first n later.before later.there in
    record {
      before = sooner.before;
      there = sooner.there;
      same = record { rows = later.same.rows ∙ sooner.same.rows; mapping = later.same.mapping ∙ sooner.same.mapping };
    }

-- a change that keeps names, rows and mappings
from_updated : (m : List ℕ) (g : PlainIndex → PlainIndex) (is : List PlainIndex) → ((i : PlainIndex) → index_name (g i) ≡ index_name i) → ((i : PlainIndex) → SameRows i (g i)) → AllFrom is (updated index_name m g is)
from_updated m g is keeps rows n j there = by_test (bytes_eq m n) refl
  where
    here : (o : Option PlainIndex) → index_named n is ≡ o → option_map g o ≡ Some j → From is n j
    here None found is_j = absurd (none_not_some is_j)
    here (Some i) found is_j = record { before = i; there = found; same = subst (SameRows i) (some_is is_j) (rows i) }

    by_test : (b : Bool) → bytes_eq m n ≡ b → From is n j
    by_test true same =
        let own : m ≡ n = (bytes_eq-Decides m n).0 same in
        here (index_named n is) refl
        (sym (named_updated_here index_name n g is keeps) ∙ (ap (λ k. index_named n (updated index_name k g is)) (sym own) ∙ there))
    by_test false other = from_itself is n j (sym (named_updated index_name m n g is keeps other) ∙ there)

-- fewer indices, told by their names
from_fewer : (stays : List ℕ → Bool) (is : List PlainIndex) → AllFrom is (filter (λ i. stays (index_name i)) is)
from_fewer stays is n j there = by_test (stays n) refl
  where
    fewer : List PlainIndex
    fewer = filter (λ i. stays (index_name i)) is

    passes : stays (index_name j) ≡ true
    passes = each_found index_name (λ i. stays (index_name i) ≡ true) n fewer j there (each_passes (λ i. stays (index_name i)) is)

    by_test : (b : Bool) → stays n ≡ b → From is n j
    by_test true kept = from_itself is n j (sym (named_kept index_name stays n is kept) ∙ there)
    by_test false gone = absurd (both_ways (stays n) gone (subst (λ k. stays k ≡ true) ((bytes_eq-Decides (index_name j) n).0 (found_name index_name n fewer j there)) passes))

-- one index more, of a new name
keeps_more : (c d : PlainCatalog) (x : PlainIndex) (left : List PlainIndex) → d.indices ≡ inserted index_name x left → AllFrom c.indices left → times (index_name x) (map index_name c.indices) ≡ 0 → KeepsTasks c d
keeps_more c d x left is from fresh = Each-all (λ t. (i j : PlainIndex) → index_named t.index c.indices ≡ Some i → index_named t.index d.indices ≡ Some j → kept_rows t j ≡ kept_rows t i) one c.tasks
  where
    one : (t : TaskFacts) (i j : PlainIndex) → index_named t.index c.indices ≡ Some i → index_named t.index d.indices ≡ Some j → kept_rows t j ≡ kept_rows t i
    one t i j old new =
        let apart = apart_of (index_name x) t.index (map index_name c.indices) fresh (some_named index_name t.index c.indices i old) in
        let came = from t.index j (sym (named_inserted index_name t.index x left apart) ∙ (sym (ap (index_named t.index) is) ∙ new)) in
        kept_same t i j (subst (λ k. SameRows k j) (some_is (sym came.there ∙ old)) came.same)

-- a name that isn't taken is that of no index
fresh_of : (c : PlainCatalog) (n : List ℕ) → is_taken n (facts_of c) ≡ false → times n (map index_name c.indices) ≡ 0
fresh_of c n free = subst (λ ns. times n ns ≡ 0) (names_same c.indices) (alone_of (facts_of c) n free)

-- ---- streams

creation_keeps : (c : PlainCatalog) (name : List ℕ) (now : ℤ) → create_refusal (facts_of c) name now ≡ None → KeepsTasks c (created c name now)
creation_keeps c name now none = by_template (template_for name c.templates)
  where
    first : Template → PlainIndex
    first t = new_index (first_name name now) t (first_start now t) (end_after now t.look_ahead)

    add : Template → PlainCatalog
    add t = record c { streams = inserted stream_name (new_stream name t now) c.streams; indices = inserted index_name (first t) c.indices }

    by_template : (o : Option Template) → KeepsTasks c (with_found o c add)
    by_template None = keeps_itself c
    by_template (Some t) = keeps_more c (add t) (first t) c.indices refl (from_itself c.indices) (fresh_of c (first_name name now) (may_create (facts_of c) name now none).index_free)

stream_gone_keeps : (c : PlainCatalog) (name : List ℕ) → KeepsTasks c (stream_deleted c name)
stream_gone_keeps c name = by_stream (stream_named name c.streams)
  where
    left : PlainStream → PlainCatalog
    left s = record c {
      streams = without stream_name name c.streams;
      indices = filter (λ i. not (has_member s i.facts.name)) c.indices;
      tasks = filter (λ t. not (has_member s t.index)) c.tasks;
    }

    by_stream : (o : Option PlainStream) → KeepsTasks c (with_found o c left)
    by_stream None = keeps_itself c
    by_stream (Some s) = keeps_from c (left s) (from_fewer (λ n. not (has_member s n)) c.indices)

rollover_keeps : (c : PlainCatalog) (name : List ℕ) (now : ℤ) → rollover_refusal (facts_of c) name now ≡ None → KeepsTasks c (rolled_over c name now)
rollover_keeps c name now none = by_stream (stream_named name c.streams) refl
  where
    next : PlainStream → Template → PlainIndex → PlainCatalog
    next s t w = record c { streams = updated stream_name name (with_next now) c.streams; indices = inserted index_name (next_index s t w.facts now) c.indices }

    by_index : (s : PlainStream) → stream_named name c.streams ≡ Some s → (t : Template) (o : Option PlainIndex) → index_named (write_name s) c.indices ≡ o → KeepsTasks c (with_found o c (next s t))
    by_index s found t None there = keeps_itself c
    by_index s found t (Some w) there =
        let named : facts_named (write_name s) (facts_of c).indices ≡ Some w.facts = facts_named-facts (write_name s) c.indices ∙ ap (option_map (λ (k : PlainIndex). k.facts)) there in
        keeps_more c (next s t w) (next_index s t w.facts now) c.indices refl (from_itself c.indices) (fresh_of c (next_name s now) (may_roll (facts_of c) name now s w.facts found named none).free)

    by_template : (s : PlainStream) → stream_named name c.streams ≡ Some s → (o : Option Template) → KeepsTasks c (with_found o c (λ t. with_found (index_named (write_name s) c.indices) c (next s t)))
    by_template s found None = keeps_itself c
    by_template s found (Some t) = by_index s found t (index_named (write_name s) c.indices) refl

    by_stream : (o : Option PlainStream) → stream_named name c.streams ≡ o →
        KeepsTasks c (with_found o c (λ s. with_found (template_named s.facts.template c.templates) c (λ t. with_found (index_named (write_name s) c.indices) c (next s t))))
    by_stream None found = keeps_itself c
    by_stream (Some s) found = by_template s found (template_named s.facts.template c.templates)

-- ---- indices

block_keeps : (c : PlainCatalog) (n : List ℕ) → KeepsTasks c (blocked_in c n)
block_keeps c n = keeps_from c (blocked_in c n) (from_updated n blocked_index c.indices (λ i. refl) (λ i. record { rows = refl; mapping = refl }))

put_keeps : (way : Way) (c : PlainCatalog) (n : List ℕ) (row : Row) → IsSoundCatalog c → TakesRow c n row → KeepsTasks c (put_into way c n row)
put_keeps way c n row sound takes =
    Each-weaker (λ t. IsTaskOf t.by t.rises (facts_named t.index (facts_of c).indices))
    (λ t. (i j : PlainIndex) → index_named t.index c.indices ≡ Some i → index_named t.index (updated index_name n put c.indices) ≡ Some j → kept_rows t j ≡ kept_rows t i)
    one c.tasks sound.facts.tasks
  where
    put : PlainIndex → PlainIndex
    put i = record i { rows = way.added row i.rows }

    one : (t : TaskFacts) → IsTaskOf t.by t.rises (facts_named t.index (facts_of c).indices) → (i j : PlainIndex) → index_named t.index c.indices ≡ Some i →
        index_named t.index (updated index_name n put c.indices) ≡ Some j → kept_rows t j ≡ kept_rows t i
    one t holds i j old new = by_test (bytes_eq n t.index) refl
      where
        by_test : (b : Bool) → bytes_eq n t.index ≡ b → kept_rows t j ≡ kept_rows t i
        by_test true same =
            let here : n ≡ t.index = (bytes_eq-Decides n t.index).0 same in
            absurd (not_taken n c row t.by t.rises (index_named n c.indices) refl takes
            (subst (λ m. IsTaskOf t.by t.rises (option_map (λ k. k.facts) (index_named m c.indices))) (sym here) (subst (IsTaskOf t.by t.rises) (facts_named-facts t.index c.indices) holds)))
        by_test false other = ap (kept_rows t) (some_is (sym new ∙ (named_updated index_name n t.index put c.indices (λ k. refl) other ∙ old)))

downsample_keeps : (way : Way) (c : PlainCatalog) (source target : List ℕ) (by : Interval) → downsample_refusal (facts_of c) source target by ≡ None → KeepsTasks c (downsampled way c source target by)
downsample_keeps way c source target by none = by_found (index_named source c.indices) refl
  where
    fold : PlainIndex → PlainIndex
    fold i = folded_index way target i.facts.mapping.schema.rises by i

    by_found : (o : Option PlainIndex) → index_named source c.indices ≡ o → KeepsTasks c (with_found o c (λ i. record c { indices = inserted index_name (fold i) c.indices }))
    by_found None is = keeps_itself c
    by_found (Some i) is =
        let named : facts_named source (facts_of c).indices ≡ Some i.facts = facts_named-facts source c.indices ∙ ap (option_map (λ (k : PlainIndex). k.facts)) is in
        keeps_more c (record c { indices = inserted index_name (fold i) c.indices }) (fold i) c.indices refl (from_itself c.indices)
        (fresh_of c target (may_downsample (facts_of c) source target by i.facts named none).free)

deletion_from : (c : PlainCatalog) (n : List ℕ) → AllFrom c.indices (index_deleted c n).indices
deletion_from c n = from_fewer (λ m. not (bytes_eq m n)) c.indices

-- ---- units

unit_keeps : (way : Way) (c : PlainCatalog) → IsSoundCatalog c → KeepsTasks c (unit_of way c)
unfolding unit_of
unit_keeps way c sound = by_tasks c.tasks refl
  where
    by_last : (task : TaskFacts) (ts : List TaskFacts) (i : PlainIndex) → c.tasks ≡ task ∷ ts → index_named task.index c.indices ≡ Some i → (b : Bool) →
        KeepsTasks c (if b then swapped way (record c { tasks = ts }) task i else record c { tasks = record task { done = next_done task.done (length (series_of i.rows)) } ∷ ts })
    by_last task ts i oldest there true =
        let named : facts_named task.index (facts_of c).indices ≡ Some i.facts = facts_named-facts task.index c.indices ∙ ap (option_map (λ (k : PlainIndex). k.facts)) there in
        keeps_more c (swapped way (record c { tasks = ts }) task i) (folded_index way task.target task.rises task.by i) (without index_name i.facts.name c.indices) refl
        (from_fewer (λ n. not (bytes_eq n i.facts.name)) c.indices)
        (subst (λ ns. times task.target ns ≡ 0) (names_same c.indices) (swap_told (facts_of c) task ts i.facts oldest named sound.facts).0)
    by_last task ts i oldest there false = keeps_from c (record c { tasks = record task { done = next_done task.done (length (series_of i.rows)) } ∷ ts }) (from_itself c.indices)

    by_found : (task : TaskFacts) (ts : List TaskFacts) → c.tasks ≡ task ∷ ts → (o : Option PlainIndex) → index_named task.index c.indices ≡ o → KeepsTasks c (advanced_at way c task ts o)
    by_found task ts oldest None there = keeps_itself c
    by_found task ts oldest (Some i) there = by_last task ts i oldest there (next_done task.done (length (series_of i.rows)) == length (series_of i.rows))

    by_tasks : (ts : List TaskFacts) → c.tasks ≡ ts → KeepsTasks c (unit_from way c ts)
    by_tasks [] is = keeps_itself c
    by_tasks (task ∷ ts) is = by_found task ts is (index_named task.index c.indices) refl

-- ---- lifecycle runs

abbrev IsOldOrNew : List TaskFacts → TaskFacts → Type 0
IsOldOrNew before t = IsOneOf t before ⊎ (t.done ≡ 0)

record RunKeeps (c d : PlainCatalog) : Type 0 where
  from : AllFrom c.indices d.indices
  tasks : Each (IsOldOrNew c.tasks) d.tasks

each_own : (ts : List TaskFacts) → Each (λ t. IsOneOf t ts) ts
each_own [] = tt
each_own (t ∷ ts) = (inl refl, Each-weaker (λ u. IsOneOf u ts) (λ u. IsOneOf u (t ∷ ts)) (λ u is. inr is) ts (each_own ts))

changed_keeps : (c d : PlainCatalog) (n : List ℕ) (g : PlainIndex → PlainIndex) → ((i : PlainIndex) → index_name (g i) ≡ index_name i) → ((i : PlainIndex) → SameRows i (g i)) → AllFrom c.indices d.indices →
    AllFrom c.indices (updated index_name n g d.indices)
changed_keeps c d n g keeps rows from = from_joined c.indices d.indices (updated index_name n g d.indices) from (from_updated n g d.indices keeps rows)

module _ (c : PlainCatalog) where
  start_keeps : (r : Running) (i : PlainIndex) (by : Interval) → (b : Bool) → RunKeeps c r.catalog → RunKeeps c (if b then r else started r i by).catalog
  start_keeps r i by true keeps = keeps
  start_keeps r i by false keeps = record {
    from = changed_keeps c r.catalog i.facts.name blocked_index (λ k. refl) (λ k. record { rows = refl; mapping = refl }) keeps.from;
    tasks = each_end (IsOldOrNew c.tasks) r.catalog.tasks (new_task i by) keeps.tasks (inr refl);
  }

  step_keeps : (members : List (List ℕ)) (r : Running) (step : Step) → RunKeeps c r.catalog → RunKeeps c (run_step members r step).catalog
  step_keeps members r (Extend place end) keeps = by_found (slice_get members place)
    where
      by_found : (o : Option (List ℕ)) → RunKeeps c (with_found o r (λ n. extended r n end)).catalog
      by_found None = keeps
      by_found (Some n) = record { from = changed_keeps c r.catalog n (ends_at end) (λ k. refl) (λ k. record { rows = refl; mapping = refl }) keeps.from; tasks = keeps.tasks }
  step_keeps members r (Delete place) keeps = by_found (slice_get members place)
    where
      by_found : (o : Option (List ℕ)) → RunKeeps c (with_found o r (λ n. deleted r n)).catalog
      by_found None = keeps
      by_found (Some n) = record {
        from = from_joined c.indices r.catalog.indices (index_deleted r.catalog n).indices keeps.from (deletion_from r.catalog n);
        tasks = Each-filter (IsOldOrNew c.tasks) (λ t. not (bytes_eq (task_index t) n)) r.catalog.tasks keeps.tasks;
      }
  step_keeps members r (Start place by) keeps = by_found (slice_get members place)
    where
      by_index : (o : Option PlainIndex) → RunKeeps c (with_found o r (λ i. started_if_free r i by)).catalog
      by_index None = keeps
      by_index (Some i) = start_keeps r i by (is_taken (downsample_name by i.facts.origin) (facts_of r.catalog)) keeps

      by_found : (o : Option (List ℕ)) → RunKeeps c (with_found o r (λ n. start_at r n by)).catalog
      by_found None = keeps
      by_found (Some n) = by_index (index_named n r.catalog.indices)

  steps_keep : (members : List (List ℕ)) (r : Running) (steps : List Step) → RunKeeps c r.catalog → RunKeeps c (run_steps members r steps).catalog
  steps_keep members r [] keeps = keeps
  steps_keep members r (step ∷ steps) keeps = steps_keep members (run_step members r step) steps (step_keeps members r step keeps)

  streams_keep : (now : ℤ) (r : Running) (ss : List PlainStream) → RunKeeps c r.catalog → RunKeeps c (run_streams now r ss).catalog
  streams_keep now r [] keeps = keeps
  streams_keep now r (s ∷ ss) keeps = streams_keep now (run_stream now r s) ss (steps_keep s.facts.members r (stream_plan (facts_of r.catalog) s now) keeps)

run_keeps : (c : PlainCatalog) (now : ℤ) → RunKeeps c (lifecycle_run c now).catalog
unfolding lifecycle_run
run_keeps c now =
    streams_keep c now (record { catalog = c; ran = record { extended = 0; deleted = 0; started = 0 } }) c.streams
    (record { from = from_itself c.indices; tasks = Each-weaker (λ t. IsOneOf t c.tasks) (IsOldOrNew c.tasks) (λ t is. inl is) c.tasks (each_own c.tasks) })

-- ---- a task that has folded nothing keeps nothing

none_of : (rows : List Row) → filter (λ (row : Row). has_key [] row.key) rows ≡ []
none_of [] = refl
none_of (row ∷ rows) = none_of rows

new_keeps : (t : TaskFacts) (i : PlainIndex) → t.done ≡ 0 → kept_rows t i ≡ []
unfolding down
new_keeps t i none =
    ap (λ k. down (task_schema t i.facts) (rows_of_first k i.rows) (ms_of t.by)) none
    ∙ ap (λ rows. down (task_schema t i.facts) rows (ms_of t.by)) (none_of i.rows)

pub task_rows_stay : TaskRowsStay
task_rows_stay = record {
  templates = λ c t. keeps_from c (template_put c t) (from_itself c.indices);
  creations = creation_keeps;
  stream_deletions = stream_gone_keeps;
  lives = λ c name life. keeps_from c (life_set c name life) (from_itself c.indices);
  rollovers = rollover_keeps;
  blocks = block_keeps;
  puts = put_keeps;
  downsamples = downsample_keeps;
  deletions = λ c n. keeps_from c (index_deleted c n) (deletion_from c n);
  moves = λ c moves. keeps_from c (moved_all c moves) (from_itself c.indices);
  units = unit_keeps;
  runs = λ c now. keeps_from c (lifecycle_run c now).catalog (run_keeps c now).from;
  begun = λ c now. (run_keeps c now).tasks;
  new = new_keeps;
}
