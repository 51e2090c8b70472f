-- Changes without rows go through seeing.
use Rattle.std.specs.Prelude.{◌≡◌, ℕ, ℤ, Bool, not, List, [], ◌∷◌, ◌++◌, ◌+◌, map, filter, Option, Some, None, true, false, if◌then◌else◌}
use Rattle.std.specs.Option.{option_map}
use Rattle.std.specs.List.{slice_get}
use Rattle.std.proofs.Common.{refl, ap, ◌∙◌, sym}
use Rattle.time_text.specs.declared.intervals.Interval.{Interval}
use Rattle.index_names.specs.Backing.{downsample_name}
use Rattle.lifecycle_swap.specs.declared.planning.Step.{Step}
use Rattle.lifecycle_swap.specs.declared.planning.Step.TheVariants.{Extend, Delete, Start}
use Rattle.lifecycle_swap.specs.declared.lifecycles.Lifecycle.{Lifecycle}
use Rattle.lifecycle_swap.specs.Ends.{end_after}
use Rattle.ts_mapping.specs.declared.templates.Template.{Template}
use Rattle.stream_catalog.specs.declared.answers.Move.{Move}
use Rattle.stream_catalog.specs.declared.facts.HeldIndex.{HeldIndex}
use Rattle.stream_catalog.specs.Plain.{PlainIndex, PlainStream, PlainCatalog, PlainFacts, facts_of}
use Rattle.stream_catalog.specs.Ways.{see_index, see_catalog}
use Rattle.stream_catalog.specs.Lists.{with_found, updated, inserted, without, stream_name, index_name, facts_name, template_named, stream_named, facts_named, index_named}
use Rattle.stream_catalog.specs.Names.{is_taken, template_for}
use Rattle.stream_catalog.specs.Streams as spec
use Rattle.stream_catalog.specs.Indices.{blocked_index, blocked_in, index_deleted, without_member, task_index}
use Rattle.stream_catalog.specs.Moves.{moved_by, moved_all}
use Rattle.stream_catalog.specs.Runs.{Running, ends_at, extended, deleted, new_task, started, started_if_free, start_at, run_step, run_steps, stream_plan, run_stream, run_streams, lifecycle_run}
use Rattle.stream_catalog.specs.Laws.{see_running}
use Rattle.stream_catalog.proofs.NamedLemmas.{named-map, updated-map, inserted-map, without-map, filter-map_alike}

-- ---- look-ups

pub index_named-see : (n : List ℕ) (is : List PlainIndex) → index_named n (map see_index is) ≡ option_map see_index (index_named n is)
index_named-see n is = named-map see_index index_name index_name (λ i. refl) n is

pub facts_named-facts : (n : List ℕ) (is : List PlainIndex) → facts_named n (map (λ i. i.facts) is) ≡ option_map (λ i. i.facts) (index_named n is)
facts_named-facts n is = named-map (λ i. i.facts) index_name facts_name (λ i. refl) n is

facts-see : (is : List PlainIndex) → map (λ i. i.facts) (map see_index is) ≡ map (λ i. i.facts) is
facts-see [] = refl
facts-see (i ∷ is) = ap (λ fs. i.facts ∷ fs) (facts-see is)

pub facts_of-see : (c : PlainCatalog) → facts_of (see_catalog c) ≡ facts_of c
facts_of-see c = ap (λ (fs : List HeldIndex). facts_by fs) (facts-see c.indices)
  where
    facts_by : List HeldIndex → PlainFacts
    facts_by fs = record { templates = c.templates; streams = c.streams; indices = fs; tasks = c.tasks }

-- indices put in the place of others
abbrev pub with_indices : PlainCatalog → List PlainIndex → PlainCatalog
with_indices c is = record c { indices = is }

-- ---- templates and streams

pub template_put-seen : (c : PlainCatalog) (t : Template) → see_catalog (spec.template_put c t) ≡ spec.template_put (see_catalog c) t
template_put-seen c t = refl

pub created-seen : (c : PlainCatalog) (name : List ℕ) (now : ℤ) → see_catalog (spec.created c name now) ≡ spec.created (see_catalog c) name now
created-seen c name now = by_found (template_for name c.templates)
  where
    with_new : PlainCatalog → Template → PlainCatalog
    with_new d t = record d {
      streams = inserted stream_name (spec.new_stream name t now) d.streams;
      indices = inserted index_name (spec.new_index (spec.first_name name now) t (spec.first_start now t) (end_after now t.look_ahead)) d.indices;
    }

    by_found : (o : Option Template) → see_catalog (with_found o c (with_new c)) ≡ with_found o (see_catalog c) (with_new (see_catalog c))
    by_found None = refl
    by_found (Some t) =
        ap (λ is. record c { streams = inserted stream_name (spec.new_stream name t now) c.streams; indices = is })
        (inserted-map see_index index_name index_name (λ i. refl) (spec.new_index (spec.first_name name now) t (spec.first_start now t) (end_after now t.look_ahead)) c.indices)

pub stream_deleted-seen : (c : PlainCatalog) (name : List ℕ) → see_catalog (spec.stream_deleted c name) ≡ spec.stream_deleted (see_catalog c) name
stream_deleted-seen c name = by_found (stream_named name c.streams)
  where
    gone : PlainCatalog → PlainStream → PlainCatalog
    gone d s = record d {
      streams = without stream_name name d.streams;
      indices = filter (λ i. not (spec.has_member s i.facts.name)) d.indices;
      tasks = filter (λ t. not (spec.has_member s t.index)) d.tasks;
    }

    by_found : (o : Option PlainStream) → see_catalog (with_found o c (gone c)) ≡ with_found o (see_catalog c) (gone (see_catalog c))
    by_found None = refl
    by_found (Some s) =
        ap (λ is. record c { streams = without stream_name name c.streams; indices = is; tasks = filter (λ t. not (spec.has_member s t.index)) c.tasks })
        (filter-map_alike see_index (λ i. not (spec.has_member s i.facts.name)) (λ i. not (spec.has_member s i.facts.name)) (λ i. refl) c.indices)

pub life_set-seen : (c : PlainCatalog) (name : List ℕ) (life : Lifecycle) → see_catalog (spec.life_set c name life) ≡ spec.life_set (see_catalog c) name life
life_set-seen c name life = refl

pub rolled_over-seen : (c : PlainCatalog) (name : List ℕ) (now : ℤ) → see_catalog (spec.rolled_over c name now) ≡ spec.rolled_over (see_catalog c) name now
rolled_over-seen c name now = by_stream (stream_named name c.streams)
  where
    next : PlainCatalog → PlainStream → Template → PlainIndex → PlainCatalog
    next d s t w = record d {
      streams = updated stream_name name (spec.with_next now) d.streams;
      indices = inserted index_name (spec.next_index s t w.facts now) d.indices;
    }

    by_index : (s : PlainStream) (t : Template) (o : Option PlainIndex) → see_catalog (with_found o c (next c s t)) ≡ with_found (option_map see_index o) (see_catalog c) (next (see_catalog c) s t)
    by_index s t None = refl
    by_index s t (Some w) =
        ap (λ is. record c { streams = updated stream_name name (spec.with_next now) c.streams; indices = is })
        (inserted-map see_index index_name index_name (λ i. refl) (spec.next_index s t w.facts now) c.indices)

    by_template : (s : PlainStream) (o : Option Template) →
        see_catalog (with_found o c (λ t. with_found (index_named (spec.write_name s) c.indices) c (next c s t)))
        ≡ with_found o (see_catalog c) (λ t. with_found (index_named (spec.write_name s) (map see_index c.indices)) (see_catalog c) (next (see_catalog c) s t))
    by_template s None = refl
    by_template s (Some t) =
        by_index s t (index_named (spec.write_name s) c.indices)
        ∙ ap (λ o. with_found o (see_catalog c) (next (see_catalog c) s t)) (sym (index_named-see (spec.write_name s) c.indices))

    by_stream : (o : Option PlainStream) →
        see_catalog (with_found o c (λ s. with_found (template_named s.facts.template c.templates) c (λ t. with_found (index_named (spec.write_name s) c.indices) c (next c s t))))
        ≡ with_found o (see_catalog c) (λ s. with_found (template_named s.facts.template c.templates) (see_catalog c) (λ t. with_found (index_named (spec.write_name s) (map see_index c.indices)) (see_catalog c) (next (see_catalog c) s t)))
    by_stream None = refl
    by_stream (Some s) = by_template s (template_named s.facts.template c.templates)

-- ---- indices and members

pub blocked-seen : (c : PlainCatalog) (n : List ℕ) → see_catalog (blocked_in c n) ≡ blocked_in (see_catalog c) n
blocked-seen c n =
    ap (with_indices c) (updated-map see_index index_name index_name (λ i. refl) n blocked_index blocked_index c.indices (λ i found. refl))

pub moved-seen : (c : PlainCatalog) (ms : List Move) → see_catalog (moved_all c ms) ≡ moved_all (see_catalog c) ms
moved-seen c ms = ap (λ f. record (see_catalog c) { streams = (moved_by f ms).streams; tasks = (moved_by f ms).tasks }) (sym (facts_of-see c))

pub index_deleted-seen : (c : PlainCatalog) (n : List ℕ) → see_catalog (index_deleted c n) ≡ index_deleted (see_catalog c) n
index_deleted-seen c n =
    ap (λ is. record c { streams = map (without_member n) c.streams; indices = is; tasks = without task_index n c.tasks })
    (without-map see_index index_name index_name (λ i. refl) n c.indices)

-- ---- a lifecycle run

extended-seen : (r : Running) (n : List ℕ) (end : ℤ) → see_running (extended r n end) ≡ extended (see_running r) n end
extended-seen r n end =
    ap (λ is. record r { catalog = record r.catalog { indices = is }; ran = record r.ran { extended = r.ran.extended + 1 } })
    (updated-map see_index index_name index_name (λ i. refl) n (ends_at end) (ends_at end) r.catalog.indices (λ i found. refl))

deleted-seen : (r : Running) (n : List ℕ) → see_running (deleted r n) ≡ deleted (see_running r) n
deleted-seen r n = ap (λ c. record r { catalog = c; ran = record r.ran { deleted = r.ran.deleted + 1 } }) (index_deleted-seen r.catalog n)

started-seen : (r : Running) (i : PlainIndex) (by : Interval) → see_running (started r i by) ≡ started (see_running r) (see_index i) by
started-seen r i by =
    ap (λ is. record r {
      catalog = record r.catalog { indices = is; tasks = r.catalog.tasks ++ new_task i by ∷ [] };
      ran = record r.ran { started = r.ran.started + 1 };
    })
    (updated-map see_index index_name index_name (λ j. refl) i.facts.name blocked_index blocked_index r.catalog.indices (λ j found. refl))

started_if_free-seen : (r : Running) (i : PlainIndex) (by : Interval) → see_running (started_if_free r i by) ≡ started_if_free (see_running r) (see_index i) by
started_if_free-seen r i by =
    by_test (is_taken (downsample_name by i.facts.origin) (facts_of r.catalog))
    ∙ ap (λ f. if is_taken (downsample_name by i.facts.origin) f then see_running r else started (see_running r) (see_index i) by) (sym (facts_of-see r.catalog))
  where
    by_test : (b : Bool) → see_running (if b then r else started r i by) ≡ (if b then see_running r else started (see_running r) (see_index i) by)
    by_test true = refl
    by_test false = started-seen r i by

start_at-seen : (r : Running) (n : List ℕ) (by : Interval) → see_running (start_at r n by) ≡ start_at (see_running r) n by
start_at-seen r n by =
    by_found (index_named n r.catalog.indices)
    ∙ ap (λ o. with_found o (see_running r) (λ i. started_if_free (see_running r) i by)) (sym (index_named-see n r.catalog.indices))
  where
    by_found : (o : Option PlainIndex) → see_running (with_found o r (λ i. started_if_free r i by)) ≡ with_found (option_map see_index o) (see_running r) (λ i. started_if_free (see_running r) i by)
    by_found None = refl
    by_found (Some i) = started_if_free-seen r i by

run_step-seen : (members : List (List ℕ)) (r : Running) (step : Step) → see_running (run_step members r step) ≡ run_step members (see_running r) step
run_step-seen members r (Extend place end) = by_place (slice_get members place)
  where
    by_place : (o : Option (List ℕ)) → see_running (with_found o r (λ n. extended r n end)) ≡ with_found o (see_running r) (λ n. extended (see_running r) n end)
    by_place None = refl
    by_place (Some n) = extended-seen r n end
run_step-seen members r (Delete place) = by_place (slice_get members place)
  where
    by_place : (o : Option (List ℕ)) → see_running (with_found o r (λ n. deleted r n)) ≡ with_found o (see_running r) (λ n. deleted (see_running r) n)
    by_place None = refl
    by_place (Some n) = deleted-seen r n
run_step-seen members r (Start place by) = by_place (slice_get members place)
  where
    by_place : (o : Option (List ℕ)) → see_running (with_found o r (λ n. start_at r n by)) ≡ with_found o (see_running r) (λ n. start_at (see_running r) n by)
    by_place None = refl
    by_place (Some n) = start_at-seen r n by

run_steps-seen : (members : List (List ℕ)) (r : Running) (steps : List Step) → see_running (run_steps members r steps) ≡ run_steps members (see_running r) steps
run_steps-seen members r [] = refl
run_steps-seen members r (step ∷ steps) =
    run_steps-seen members (run_step members r step) steps ∙ ap (λ q. run_steps members q steps) (run_step-seen members r step)

run_stream-seen : (now : ℤ) (r : Running) (s : PlainStream) → see_running (run_stream now r s) ≡ run_stream now (see_running r) s
run_stream-seen now r s =
    run_steps-seen s.facts.members r (stream_plan (facts_of r.catalog) s now)
    ∙ ap (λ f. run_steps s.facts.members (see_running r) (stream_plan f s now)) (sym (facts_of-see r.catalog))

run_streams-seen : (now : ℤ) (r : Running) (ss : List PlainStream) → see_running (run_streams now r ss) ≡ run_streams now (see_running r) ss
run_streams-seen now r [] = refl
run_streams-seen now r (s ∷ ss) =
    run_streams-seen now (run_stream now r s) ss ∙ ap (λ q. run_streams now q ss) (run_stream-seen now r s)

pub lifecycle_run-seen : (c : PlainCatalog) (now : ℤ) → see_running (lifecycle_run c now) ≡ lifecycle_run (see_catalog c) now
unfolding lifecycle_run
lifecycle_run-seen c now = run_streams-seen now (record { catalog = c; ran = record { extended = 0; deleted = 0; started = 0 } }) c.streams
