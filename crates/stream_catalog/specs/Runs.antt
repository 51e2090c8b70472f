-- A lifecycle run over all streams.
use Rattle.std.specs.Prelude.{ℕ, ◌+◌, ℤ, List, [], ◌∷◌, ◌++◌, bytes_eq, if◌then◌else◌}
use Rattle.std.specs.List.{list_any, slice_get}
use Rattle.time_text.specs.declared.intervals.Interval.{Interval}
use Rattle.index_names.specs.Backing.{downsample_name}
use Rattle.lifecycle_swap.specs.Plan.{plan_of}
use Rattle.lifecycle_swap.specs.declared.planning.IndexFacts.{IndexFacts}
use Rattle.lifecycle_swap.specs.declared.planning.Step.{Step}
use Rattle.lifecycle_swap.specs.declared.planning.Step.TheVariants.{Extend, Delete, Start}
use Rattle.stream_catalog.specs.declared.answers.Ran.{Ran}
use Rattle.stream_catalog.specs.declared.facts.HeldIndex.{HeldIndex}
use Rattle.stream_catalog.specs.declared.facts.TaskFacts.{TaskFacts}
use Rattle.stream_catalog.specs.Plain.{PlainIndex, PlainStream, PlainCatalog, PlainFacts, facts_of}
use Rattle.stream_catalog.specs.Lists.{with_found, updated, index_name, index_named, template_named, facts_named}
use Rattle.stream_catalog.specs.Names.{is_taken}
use Rattle.stream_catalog.specs.Streams.{is_write}
use Rattle.stream_catalog.specs.Indices.{blocked_index, index_deleted}

-- a catalogue, and what was done so far
pub record Running : Type 0 where
  pub catalog : PlainCatalog
  pub ran : Ran

-- ---- the steps of one stream

-- what a plan is made from, a member's number being its place
abbrev pub member_facts : PlainFacts → PlainStream → ℕ → HeldIndex → IndexFacts
member_facts f s place i = record {
  index = place;
  end = i.end;
  write = is_write s i.name;
  interval = i.interval;
  busy = list_any (λ t. bytes_eq t.index i.name) f.tasks;
}

abbrev pub facts_from : PlainFacts → PlainStream → ℕ → List (List ℕ) → List IndexFacts
facts_from f s place [] = []
facts_from f s place (m ∷ ms) =
    with_found (facts_named m f.indices) (facts_from f s (place + 1) ms) (λ i. member_facts f s place i ∷ facts_from f s (place + 1) ms)

-- the steps that the present asks of a stream; windows reach as far ahead as its template looks now
abbrev pub stream_plan : PlainFacts → PlainStream → ℤ → List Step
stream_plan f s now = with_found (template_named s.facts.template f.templates) [] (λ t. plan_of now t.look_ahead s.life (facts_from f s 0 s.facts.members))

-- ---- each step

abbrev pub ends_at : ℤ → PlainIndex → PlainIndex
ends_at end i = record i { facts = record i.facts { end = end } }

abbrev pub extended : Running → List ℕ → ℤ → Running
extended r n end = record r {
  catalog = record r.catalog { indices = updated index_name n (ends_at end) r.catalog.indices };
  ran = record r.ran { extended = r.ran.extended + 1 };
}

abbrev pub deleted : Running → List ℕ → Running
deleted r n = record r { catalog = index_deleted r.catalog n; ran = record r.ran { deleted = r.ran.deleted + 1 } }

abbrev pub new_task : PlainIndex → Interval → TaskFacts
new_task i by = record { index = i.facts.name; target = downsample_name by i.facts.origin; by = by; done = 0; rises = i.facts.mapping.schema.rises }

-- a fold begins, and blocks its index
abbrev pub started : Running → PlainIndex → Interval → Running
started r i by = record r {
  catalog = record r.catalog {
    indices = updated index_name i.facts.name blocked_index r.catalog.indices;
    tasks = r.catalog.tasks ++ new_task i by ∷ [];
  };
  ran = record r.ran { started = r.ran.started + 1 };
}

-- unless its name is taken
abbrev pub started_if_free : Running → PlainIndex → Interval → Running
started_if_free r i by = if is_taken (downsample_name by i.facts.origin) (facts_of r.catalog) then r else started r i by

abbrev pub start_at : Running → List ℕ → Interval → Running
start_at r n by = with_found (index_named n r.catalog.indices) r (λ i. started_if_free r i by)

-- a step names a member by its place
abbrev pub run_step : List (List ℕ) → Running → Step → Running
run_step members r (Extend place end) = with_found (slice_get members place) r (λ n. extended r n end)
run_step members r (Delete place) = with_found (slice_get members place) r (λ n. deleted r n)
run_step members r (Start place by) = with_found (slice_get members place) r (λ n. start_at r n by)

abbrev pub run_steps : List (List ℕ) → Running → List Step → Running
run_steps members r [] = r
run_steps members r (step ∷ steps) = run_steps members (run_step members r step) steps

-- ---- all streams, by their names

abbrev pub run_stream : ℤ → Running → PlainStream → Running
run_stream now r s = run_steps s.facts.members r (stream_plan (facts_of r.catalog) s now)

abbrev pub run_streams : ℤ → Running → List PlainStream → Running
run_streams now r [] = r
run_streams now r (s ∷ ss) = run_streams now (run_stream now r s) ss

unfoldable pub lifecycle_run : PlainCatalog → ℤ → Running
lifecycle_run c now = run_streams now (record { catalog = c; ran = record { extended = 0; deleted = 0; started = 0 } }) c.streams
