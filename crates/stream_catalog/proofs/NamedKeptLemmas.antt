-- Each change of a catalogue leaves its names well formed.
use Rattle.std.specs.Prelude.{◌≡◌, ℕ, ℤ, ◌+◌, ◌≤◌, ◌==◌, Bool, not, true, false, bytes_eq, List, [], ◌∷◌, map, filter, length, Option, Some, None, IsTrue, if◌then◌else◌}
use Rattle.std.specs.List.{slice_get}
use Rattle.std.specs.Option.{option_map}
use Rattle.std.proofs.Common.{refl, ap, ◌∙◌, arith}
use Rattle.index_names.specs.Backing.{backing_name, downsample_name}
use Rattle.index_names.specs.Names.{is_stream_name, is_target_name, is_index_name}
use Rattle.index_names.specs.Reading.{IsBackingName}
use Rattle.lifecycle_swap.specs.Ends.{end_after}
use Rattle.lifecycle_swap.specs.declared.lifecycles.Lifecycle.{Lifecycle}
use Rattle.lifecycle_swap.specs.declared.planning.Step.{Step}
use Rattle.lifecycle_swap.specs.declared.planning.Step.TheVariants.{Extend, Delete, Start}
use Rattle.downsample_fold.specs.Laws.{series_of}
use Rattle.row_cells.specs.Each.{Each}
use Rattle.row_cells.specs.EachLaws.{Each-filter}
use Rattle.row_cells.specs.declared.rows.Row.{Row}
use Rattle.time_text.specs.Instant.{IsInstant}
use Rattle.time_text.specs.declared.intervals.Interval.{Interval}
use Rattle.ts_mapping.specs.declared.templates.Template.{Template}
use Rattle.stream_catalog.specs.declared.answers.Move.{Move}
use Rattle.stream_catalog.specs.declared.answers.Move.TheVariants.{Remove, Add}
use Rattle.stream_catalog.specs.declared.facts.HeldIndex.{HeldIndex}
use Rattle.stream_catalog.specs.declared.facts.TaskFacts.{TaskFacts}
use Rattle.stream_catalog.specs.Plain.{PlainIndex, PlainStream, PlainCatalog, PlainFacts, facts_of}
use Rattle.stream_catalog.specs.Ways.{Way, see_index, see_catalog}
use Rattle.stream_catalog.specs.Lists.{with_found, updated, inserted, without, template_name, stream_name, index_name, stream_named, facts_named, index_named, template_named}
use Rattle.stream_catalog.specs.Names.{is_taken, template_for}
use Rattle.stream_catalog.specs.Streams.{template_put, first_name, first_start, new_index, new_stream, created, has_member, stream_deleted, life_set, write_name, next_index, with_next, rollover_refusal, rolled_over}
use Rattle.stream_catalog.specs.Indices.{blocked_index, blocked_in, folded_index, downsampled, without_member, task_index, index_deleted}
use Rattle.stream_catalog.specs.Moves.{with_member, moved, moved_by, moved_all}
use Rattle.stream_catalog.specs.Puts.{put_into}
use Rattle.stream_catalog.specs.Runs.{Running, ends_at, extended, deleted, new_task, started, started_if_free, start_at, run_step, run_steps, stream_plan, run_stream, run_streams, lifecycle_run}
use Rattle.stream_catalog.specs.Units.{with_renamed, swapped, next_done, advanced_at, unit_from, unit_of}
use Rattle.stream_catalog.specs.WellNamed.{IsTemplateNamed, IsStreamNamed, IsIndexNamed, IsTaskNamed, IsWellNamed}
use Rattle.stream_catalog.proofs.NamedLemmas.{each_found, each_updated, each_inserted}
use Rattle.stream_catalog.proofs.NameLemmas.{backing_named, fold_named, fold_long, target_named}
use Rattle.stream_catalog.proofs.RollLemmas.{each_end, may_roll}
use Rattle.stream_catalog.proofs.ChangeLemmas.{facts_named-facts}
use Rattle.stream_catalog.specs.Laws.{NamesKeep}

each_mapped : {A B : Type 0} (P : A → Type 0) (Q : B → Type 0) (f : A → B) → ((a : A) → P a → Q (f a)) → (xs : List A) → Each P xs → Each Q (map f xs)
each_mapped P Q f step [] each = tt
each_mapped P Q f step (x ∷ xs) each = (step x each.0, each_mapped P Q f step xs each.1)

-- ---- what is seen

pub seen_named : (c : PlainCatalog) → IsWellNamed c → IsWellNamed (see_catalog c)
seen_named c is = record { templates = is.templates; streams = is.streams; indices = each_mapped IsIndexNamed IsIndexNamed see_index (λ i one. one) c.indices is.indices; tasks = is.tasks }

-- ---- templates and streams

pub template_named_well : (c : PlainCatalog) (t : Template) → IsTrue (is_stream_name t.name) → IsWellNamed c → IsWellNamed (template_put c t)
template_named_well c t one is = record {
  templates = each_inserted template_name IsTemplateNamed t (without template_name t.name c.templates) one
      (Each-filter IsTemplateNamed (λ u. not (bytes_eq (template_name u) t.name)) c.templates is.templates);
  streams = is.streams;
  indices = is.indices;
  tasks = is.tasks;
}

-- the name of a backing index is well formed, and of its own origin
backing_index : (s : List ℕ) (now : ℤ) (g : ℕ) → IsTrue (is_stream_name s) → IsInstant now → 1 ≤ g → g ≤ 999_999 → IsTrue (is_index_name (backing_name s now g)) × IsBackingName (backing_name s now g)
backing_index s now g of_stream is_now some few = (
  backing_named s now g of_stream few,
  (s, now, g, record { of_stream = of_stream; at_instant = is_now; within = (some, few); printed = refl }),
)

pub created_named : (c : PlainCatalog) (name : List ℕ) (now : ℤ) → IsTrue (is_stream_name name) → IsInstant now → IsWellNamed c → IsWellNamed (created c name now)
created_named c name now one is_now is = by_template (template_for name c.templates)
  where
    add : Template → PlainCatalog
    add t = record c {
      streams = inserted stream_name (new_stream name t now) c.streams;
      indices = inserted index_name (new_index (first_name name now) t (first_start now t) (end_after now t.look_ahead)) c.indices;
    }

    by_template : (o : Option Template) → IsWellNamed (with_found o c add)
    by_template None = is
    by_template (Some t) = record {
      templates = is.templates;
      streams = each_inserted stream_name IsStreamNamed (new_stream name t now) c.streams one is.streams;
      indices = each_inserted index_name IsIndexNamed (new_index (first_name name now) t (first_start now t) (end_after now t.look_ahead)) c.indices
          (backing_index name now 1 one is_now (omega arith) (omega arith)) is.indices;
      tasks = is.tasks;
    }

pub stream_gone_named : (c : PlainCatalog) (name : List ℕ) → IsWellNamed c → IsWellNamed (stream_deleted c name)
stream_gone_named c name is = by_stream (stream_named name c.streams)
  where
    by_stream : (o : Option PlainStream) → IsWellNamed (with_found o c (λ s. record c {
      streams = without stream_name name c.streams;
      indices = filter (λ i. not (has_member s i.facts.name)) c.indices;
      tasks = filter (λ t. not (has_member s t.index)) c.tasks;
    }))
    by_stream None = is
    by_stream (Some s) = record {
      templates = is.templates;
      streams = Each-filter IsStreamNamed (λ x. not (bytes_eq (stream_name x) name)) c.streams is.streams;
      indices = Each-filter IsIndexNamed (λ i. not (has_member s i.facts.name)) c.indices is.indices;
      tasks = Each-filter IsTaskNamed (λ t. not (has_member s t.index)) c.tasks is.tasks;
    }

pub life_named : (c : PlainCatalog) (name : List ℕ) (life : Lifecycle) → IsWellNamed c → IsWellNamed (life_set c name life)
life_named c name life is = record {
  templates = is.templates;
  streams = each_updated stream_name IsStreamNamed name (λ s. record s { life = Some life }) c.streams (λ s found. each_found stream_name IsStreamNamed name c.streams s found is.streams) is.streams;
  indices = is.indices;
  tasks = is.tasks;
}

pub rolled_named : (c : PlainCatalog) (name : List ℕ) (now : ℤ) → IsInstant now → rollover_refusal (facts_of c) name now ≡ None → IsWellNamed c → IsWellNamed (rolled_over c name now)
rolled_named c name now is_now none is = by_stream (stream_named name c.streams) refl
  where
    next : PlainStream → Template → PlainIndex → PlainCatalog
    next s t w = record c { streams = updated stream_name name (with_next now) c.streams; indices = inserted index_name (next_index s t w.facts now) c.indices }

    by_index : (s : PlainStream) → stream_named name c.streams ≡ Some s → (t : Template) (o : Option PlainIndex) → index_named (write_name s) c.indices ≡ o → IsWellNamed (with_found o c (next s t))
    by_index s found t None there = is
    by_index s found t (Some w) there =
        let named : facts_named (write_name s) (facts_of c).indices ≡ Some w.facts = facts_named-facts (write_name s) c.indices ∙ ap (option_map (λ (k : PlainIndex). k.facts)) there in
        let room = (may_roll (facts_of c) name now s w.facts found named none).generation in
        record {
          templates = is.templates;
          streams = each_updated stream_name IsStreamNamed name (with_next now) c.streams (λ z z_found. each_found stream_name IsStreamNamed name c.streams z z_found is.streams) is.streams;
          indices = each_inserted index_name IsIndexNamed (next_index s t w.facts now) c.indices
              (backing_index s.facts.name now (s.facts.generation + 1) (each_found stream_name IsStreamNamed name c.streams s found is.streams) is_now (omega arith) (omega (arith, room))) is.indices;
          tasks = is.tasks;
        }

    by_template : (s : PlainStream) → stream_named name c.streams ≡ Some s → (o : Option Template) → IsWellNamed (with_found o c (λ t. with_found (index_named (write_name s) c.indices) c (next s t)))
    by_template s found None = is
    by_template s found (Some t) = by_index s found t (index_named (write_name s) c.indices) refl

    by_stream : (o : Option PlainStream) → stream_named name c.streams ≡ o →
        IsWellNamed (with_found o c (λ s. with_found (template_named s.facts.template c.templates) c (λ t. with_found (index_named (write_name s) c.indices) c (next s t))))
    by_stream None found = is
    by_stream (Some s) found = by_template s found (template_named s.facts.template c.templates)

-- ---- indices

-- a change of an index that keeps its name and its origin
index_changed : (c : PlainCatalog) (n : List ℕ) (g : PlainIndex → PlainIndex) → ((i : PlainIndex) → IsIndexNamed i → IsIndexNamed (g i)) → IsWellNamed c →
    IsWellNamed (record c { indices = updated index_name n g c.indices })
index_changed c n g keeps is = record {
  templates = is.templates;
  streams = is.streams;
  indices = each_updated index_name IsIndexNamed n g c.indices (λ i found. keeps i (each_found index_name IsIndexNamed n c.indices i found is.indices)) is.indices;
  tasks = is.tasks;
}

pub blocked_named : (c : PlainCatalog) (n : List ℕ) → IsWellNamed c → IsWellNamed (blocked_in c n)
blocked_named c n is = index_changed c n blocked_index (λ i one. one) is

pub put_named : (way : Way) (c : PlainCatalog) (n : List ℕ) (row : Row) → IsWellNamed c → IsWellNamed (put_into way c n row)
put_named way c n row is = index_changed c n (λ i. record i { rows = way.added row i.rows }) (λ i one. one) is

pub downsampled_named : (way : Way) (c : PlainCatalog) (source target : List ℕ) (by : Interval) → IsTrue (is_target_name target) → IsWellNamed c → IsWellNamed (downsampled way c source target by)
downsampled_named way c source target by one is = by_index (index_named source c.indices) refl
  where
    by_index : (o : Option PlainIndex) → index_named source c.indices ≡ o →
        IsWellNamed (with_found o c (λ i. record c { indices = inserted index_name (folded_index way target i.facts.mapping.schema.rises by i) c.indices }))
    by_index None found = is
    by_index (Some i) found = record {
      templates = is.templates;
      streams = is.streams;
      indices = each_inserted index_name IsIndexNamed (folded_index way target i.facts.mapping.schema.rises by i) c.indices
          (target_named target one, (each_found index_name IsIndexNamed source c.indices i found is.indices).1) is.indices;
      tasks = is.tasks;
    }

pub index_gone_named : (c : PlainCatalog) (n : List ℕ) → IsWellNamed c → IsWellNamed (index_deleted c n)
index_gone_named c n is = record {
  templates = is.templates;
  streams = each_mapped IsStreamNamed IsStreamNamed (without_member n) (λ s one. one) c.streams is.streams;
  indices = Each-filter IsIndexNamed (λ i. not (bytes_eq (index_name i) n)) c.indices is.indices;
  tasks = Each-filter IsTaskNamed (λ t. not (bytes_eq (task_index t) n)) c.tasks is.tasks;
}

-- ---- moves

abbrev AreMovedNamed : PlainFacts → Type 0
AreMovedNamed f = Each IsStreamNamed f.streams × Each IsTaskNamed f.tasks

moved_named : (f : PlainFacts) (m : Move) → AreMovedNamed f → AreMovedNamed (moved f m)
moved_named f (Remove stream index) is = (
  each_updated stream_name IsStreamNamed stream (without_member index) f.streams (λ s found. each_found stream_name IsStreamNamed stream f.streams s found is.0) is.0,
  Each-filter IsTaskNamed (λ t. not (bytes_eq (task_index t) index)) f.tasks is.1,
)
moved_named f (Add stream index) is = by_found (facts_named index f.indices)
  where
    by_found : (o : Option HeldIndex) → AreMovedNamed (with_found o f (λ i. record f { streams = updated stream_name stream (with_member f.indices i) f.streams }))
    by_found None = is
    by_found (Some i) = (each_updated stream_name IsStreamNamed stream (with_member f.indices i) f.streams (λ s found. each_found stream_name IsStreamNamed stream f.streams s found is.0) is.0, is.1)

moved_by_named : (f : PlainFacts) (ms : List Move) → AreMovedNamed f → AreMovedNamed (moved_by f ms)
moved_by_named f [] is = is
moved_by_named f (m ∷ ms) is = moved_by_named (moved f m) ms (moved_named f m is)

pub moved_all_named : (c : PlainCatalog) (ms : List Move) → IsWellNamed c → IsWellNamed (moved_all c ms)
moved_all_named c ms is =
    let moved = moved_by_named (facts_of c) ms (is.streams, is.tasks) in
    record { templates = is.templates; streams = moved.0; indices = is.indices; tasks = moved.1 }

-- ---- units

pub unit_named : (way : Way) (c : PlainCatalog) → IsWellNamed c → IsWellNamed (unit_of way c)
unfolding unit_of
unit_named way c is = by_tasks c.tasks is.tasks
  where
    by_last : (task : TaskFacts) (ts : List TaskFacts) (i : PlainIndex) → Each IsTaskNamed (task ∷ ts) → IsIndexNamed i → (b : Bool) →
        IsWellNamed (if b then swapped way (record c { tasks = ts }) task i else record c { tasks = record task { done = next_done task.done (length (series_of i.rows)) } ∷ ts })
    by_last task ts i named one true = record {
      templates = is.templates;
      streams = each_mapped IsStreamNamed IsStreamNamed (with_renamed i.facts.name task.target) (λ s so. so) c.streams is.streams;
      indices = each_inserted index_name IsIndexNamed (folded_index way task.target task.rises task.by i) (without index_name i.facts.name c.indices) (target_named task.target named.0, one.1)
          (Each-filter IsIndexNamed (λ k. not (bytes_eq (index_name k) i.facts.name)) c.indices is.indices);
      tasks = named.1;
    }
    by_last task ts i named one false = record { templates = is.templates; streams = is.streams; indices = is.indices; tasks = named }

    by_found : (task : TaskFacts) (ts : List TaskFacts) → Each IsTaskNamed (task ∷ ts) → (o : Option PlainIndex) → index_named task.index c.indices ≡ o → IsWellNamed (advanced_at way c task ts o)
    by_found task ts named None there = is
    by_found task ts named (Some i) there =
        by_last task ts i named (each_found index_name IsIndexNamed task.index c.indices i there is.indices) (next_done task.done (length (series_of i.rows)) == length (series_of i.rows))

    by_tasks : (ts : List TaskFacts) → Each IsTaskNamed ts → IsWellNamed (unit_from way c ts)
    by_tasks [] named = is
    by_tasks (task ∷ ts) named = by_found task ts named (index_named task.index c.indices) refl

-- ---- lifecycle runs

start_named : (r : Running) (i : PlainIndex) (by : Interval) → IsIndexNamed i → IsWellNamed r.catalog → IsWellNamed (started_if_free r i by).catalog
start_named r i by one is = by_test (is_taken (downsample_name by i.facts.origin) (facts_of r.catalog))
  where
    by_test : (b : Bool) → IsWellNamed (if b then r else started r i by).catalog
    by_test true = is
    by_test false =
        let blocked = index_changed r.catalog i.facts.name blocked_index (λ k so. so) is in
        record { templates = is.templates; streams = is.streams; indices = blocked.indices; tasks = each_end IsTaskNamed r.catalog.tasks (new_task i by) is.tasks (fold_named by i.facts.origin one.1) }

step_named : (members : List (List ℕ)) (r : Running) (step : Step) → IsWellNamed r.catalog → IsWellNamed (run_step members r step).catalog
step_named members r (Extend place end) is = by_found (slice_get members place)
  where
    by_found : (o : Option (List ℕ)) → IsWellNamed (with_found o r (λ n. extended r n end)).catalog
    by_found None = is
    by_found (Some n) = index_changed r.catalog n (ends_at end) (λ i so. so) is
step_named members r (Delete place) is = by_found (slice_get members place)
  where
    by_found : (o : Option (List ℕ)) → IsWellNamed (with_found o r (λ n. deleted r n)).catalog
    by_found None = is
    by_found (Some n) = index_gone_named r.catalog n is
step_named members r (Start place by) is = by_found (slice_get members place)
  where
    by_index : (n : List ℕ) (o : Option PlainIndex) → index_named n r.catalog.indices ≡ o → IsWellNamed (with_found o r (λ i. started_if_free r i by)).catalog
    by_index n None there = is
    by_index n (Some i) there = start_named r i by (each_found index_name IsIndexNamed n r.catalog.indices i there is.indices) is

    by_found : (o : Option (List ℕ)) → IsWellNamed (with_found o r (λ n. start_at r n by)).catalog
    by_found None = is
    by_found (Some n) = by_index n (index_named n r.catalog.indices) refl

steps_named : (members : List (List ℕ)) (r : Running) (steps : List Step) → IsWellNamed r.catalog → IsWellNamed (run_steps members r steps).catalog
steps_named members r [] is = is
steps_named members r (step ∷ steps) is = steps_named members (run_step members r step) steps (step_named members r step is)

streams_named_well : (now : ℤ) (r : Running) (ss : List PlainStream) → IsWellNamed r.catalog → IsWellNamed (run_streams now r ss).catalog
streams_named_well now r [] is = is
streams_named_well now r (s ∷ ss) is = streams_named_well now (run_stream now r s) ss (steps_named s.facts.members r (stream_plan (facts_of r.catalog) s now) is)

pub run_named : (c : PlainCatalog) (now : ℤ) → IsWellNamed c → IsWellNamed (lifecycle_run c now).catalog
unfolding lifecycle_run
run_named c now is = streams_named_well now (record { catalog = c; ran = record { extended = 0; deleted = 0; started = 0 } }) c.streams is

pub names_keep : NamesKeep
names_keep = record {
  seen = seen_named;
  templates = template_named_well;
  creations = created_named;
  stream_deletions = stream_gone_named;
  lives = life_named;
  rollovers = rolled_named;
  blocks = blocked_named;
  puts = put_named;
  downsamples = downsampled_named;
  deletions = index_gone_named;
  moves = moved_all_named;
  units = unit_named;
  runs = run_named;
  folds = λ by origin is. (fold_named by origin is, fold_long by origin is);
}
