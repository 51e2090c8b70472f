-- Changes of a catalogue as they are seen in its facts, which no rows decide.
use Rattle.std.specs.Prelude.{◌≡◌, ℕ, ℤ, List, not, filter, map, Some, true}
use Rattle.time_text.specs.declared.intervals.Interval.{Interval}
use Rattle.lifecycle_swap.specs.Ends.{end_after}
use Rattle.lifecycle_swap.specs.declared.lifecycles.Lifecycle.{Lifecycle}
use Rattle.ts_mapping.specs.declared.templates.Template.{Template}
use Rattle.stream_catalog.specs.declared.answers.Move.{Move}
use Rattle.stream_catalog.specs.declared.facts.HeldIndex.{HeldIndex}
use Rattle.stream_catalog.specs.Plain.{PlainIndex, PlainStream, PlainCatalog, PlainFacts, facts_of}
use Rattle.stream_catalog.specs.Ways.{Way}
use Rattle.stream_catalog.specs.Lists.{with_found, updated, inserted, without, template_name, stream_name, facts_name, template_named, stream_named, facts_named}
use Rattle.stream_catalog.specs.Names.{template_for}
use Rattle.stream_catalog.specs.Streams.{template_put, first_name, first_start, new_index, new_stream, created, has_member, stream_deleted, life_set, write_name, next_index, with_next, rolled_over}
use Rattle.stream_catalog.specs.Indices.{blocked_in, folded_facts, downsampled, without_member, task_index, index_deleted}
use Rattle.stream_catalog.specs.Moves.{moved_by, moved_all}

abbrev pub facts_with_template : PlainFacts → Template → PlainFacts
facts_with_template f t = record f { templates = inserted template_name t (without template_name t.name f.templates) }

-- the first index of a new stream
abbrev pub first_index : List ℕ → Template → ℤ → PlainIndex
first_index name t now = new_index (first_name name now) t (first_start now t) (end_after now t.look_ahead)

abbrev pub facts_created : PlainFacts → List ℕ → ℤ → PlainFacts
facts_created f name now = with_found (template_for name f.templates) f (λ t. record f {
  streams = inserted stream_name (new_stream name t now) f.streams;
  indices = inserted facts_name (first_index name t now).facts f.indices;
})

abbrev pub facts_without_stream : PlainFacts → List ℕ → PlainFacts
facts_without_stream f name = with_found (stream_named name f.streams) f (λ s. record f {
  streams = without stream_name name f.streams;
  indices = filter (λ i. not (has_member s i.name)) f.indices;
  tasks = filter (λ t. not (has_member s t.index)) f.tasks;
})

abbrev pub with_life : Lifecycle → PlainStream → PlainStream
with_life life s = record s { life = Some life }

abbrev pub facts_with_life : PlainFacts → List ℕ → Lifecycle → PlainFacts
facts_with_life f name life = record f { streams = updated stream_name name (with_life life) f.streams }

abbrev pub facts_rolled_over : PlainFacts → List ℕ → ℤ → PlainFacts
facts_rolled_over f name now =
    with_found (stream_named name f.streams) f (λ s.
    with_found (template_named s.facts.template f.templates) f (λ t.
    with_found (facts_named (write_name s) f.indices) f (λ w. record f {
      streams = updated stream_name name (with_next now) f.streams;
      indices = inserted facts_name (next_index s t w now).facts f.indices;
    })))

abbrev pub blocked_facts : HeldIndex → HeldIndex
blocked_facts i = record i { blocked = true }

abbrev pub facts_blocked : PlainFacts → List ℕ → PlainFacts
facts_blocked f n = record f { indices = updated facts_name n blocked_facts f.indices }

abbrev pub facts_downsampled : PlainFacts → List ℕ → List ℕ → Interval → PlainFacts
facts_downsampled f source target by = with_found (facts_named source f.indices) f (λ i.
    record f { indices = inserted facts_name (folded_facts target i.mapping.schema.rises by i) f.indices })

abbrev pub facts_without_index : PlainFacts → List ℕ → PlainFacts
facts_without_index f n = record f {
  streams = map (without_member n) f.streams;
  indices = without facts_name n f.indices;
  tasks = without task_index n f.tasks;
}

-- ---- they are what the changes of a catalogue leave of its facts, in either way

pub record ChangesTellFacts : Type 0 where
  pub templates : (c : PlainCatalog) (t : Template) → facts_of (template_put c t) ≡ facts_with_template (facts_of c) t
  pub creations : (c : PlainCatalog) (name : List ℕ) (now : ℤ) → facts_of (created c name now) ≡ facts_created (facts_of c) name now
  pub stream_deletions : (c : PlainCatalog) (name : List ℕ) → facts_of (stream_deleted c name) ≡ facts_without_stream (facts_of c) name
  pub lives : (c : PlainCatalog) (name : List ℕ) (life : Lifecycle) → facts_of (life_set c name life) ≡ facts_with_life (facts_of c) name life
  pub rollovers : (c : PlainCatalog) (name : List ℕ) (now : ℤ) → facts_of (rolled_over c name now) ≡ facts_rolled_over (facts_of c) name now
  pub blocks : (c : PlainCatalog) (n : List ℕ) → facts_of (blocked_in c n) ≡ facts_blocked (facts_of c) n
  pub downsamples : (way : Way) (c : PlainCatalog) (source target : List ℕ) (by : Interval) → facts_of (downsampled way c source target by) ≡ facts_downsampled (facts_of c) source target by
  pub deletions : (c : PlainCatalog) (n : List ℕ) → facts_of (index_deleted c n) ≡ facts_without_index (facts_of c) n
  pub moves : (c : PlainCatalog) (moves : List Move) → facts_of (moved_all c moves) ≡ record (facts_of c) { streams = (moved_by (facts_of c) moves).streams; tasks = (moved_by (facts_of c) moves).tasks }
