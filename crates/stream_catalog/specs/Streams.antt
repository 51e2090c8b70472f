-- Templates and streams: what refuses each change, and what it leaves.
use Rattle.std.specs.Prelude.{◌≡◌, ℕ, ℤ, pos, ◌-ℤ◌, Bool, not, ◌&&◌, ◌+◌, nat_le, List, [], ◌∷◌, ◌++◌, filter, length, bytes_eq, Option, Some, None, false}
use Rattle.std.specs.Int.{int_max}
use Rattle.std.specs.List.{list_any, find}
use Rattle.std.specs.Option.{is_some, option_map, option_or}
use Rattle.std.specs.Ordering.{int_eq}
use Rattle.row_cells.specs.declared.schemas.Field.{Field}
use Rattle.ts_mapping.specs.Agreeing.{is_other_field}
use Rattle.ts_mapping.specs.Ranges.{mapping_of}
use Rattle.ts_mapping.specs.declared.templates.Template.{Template}
use Rattle.index_names.specs.Backing.{backing_name, greatest_generation, is_reserved}
use Rattle.lifecycle_swap.specs.Ends.{end_after}
use Rattle.edge_face.specs.Limits.{last_instant}
use Rattle.lifecycle_swap.specs.declared.lifecycles.Lifecycle.{Lifecycle}
use Rattle.stream_catalog.specs.declared.answers.CatalogError.{CatalogError}
use Rattle.stream_catalog.specs.declared.answers.CatalogError.TheVariants.{Refused, NoMemory}
use Rattle.stream_catalog.specs.declared.answers.Refusal.{Refusal}
use Rattle.stream_catalog.specs.declared.answers.Refusal.TheVariants.{NoSuchName, NameTaken, NoTemplate, Reserved, Limit, TimeOver, ChangedField}
use Rattle.stream_catalog.specs.declared.answers.What.TheVariants.{Templates, Streams, Indices, Generations}
use Rattle.stream_catalog.specs.declared.answers.Rolled.{Rolled}
use Rattle.stream_catalog.specs.declared.facts.HeldIndex.{HeldIndex}
use Rattle.stream_catalog.specs.Plain.{PlainIndex, PlainStream, PlainCatalog, PlainFacts}
use Rattle.stream_catalog.specs.Lists.{when, on_found, with_found, first_refusal, updated, inserted, without, template_name, stream_name, index_name, template_named, stream_named, facts_named, index_named}
use Rattle.stream_catalog.specs.Limits.{most_templates, most_streams, most_indices}
use Rattle.stream_catalog.specs.Names.{is_taken, template_for}

-- why a call refused: its refusal, or want of memory, which may come at any time
abbrev pub IsCause : Option Refusal → CatalogError → Type 0
IsCause refusal (Refused r) = refusal ≡ Some r
IsCause refusal NoMemory = Unit {0}

-- ---- a template

-- an index of this template's name maps the field's path in another way
abbrev pub maps_otherwise : List ℕ → Field → HeldIndex → Bool
maps_otherwise template f i = bytes_eq i.template template && list_any (is_other_field f) i.mapping.schema.fields

-- the first field, which has the least path, that an index maps in another way, and the first such index
abbrev pub changed_field : List ℕ → List HeldIndex → List Field → Option Refusal
changed_field template is [] = None
changed_field template is (f ∷ fs) =
    option_or (option_map (λ i. ChangedField f.path i.name) (find (maps_otherwise template f) is)) (changed_field template is fs)

abbrev pub template_refusal : PlainFacts → Template → Option Refusal
template_refusal f t = first_refusal (
    changed_field t.name f.indices t.schema.fields
    ∷ when (not (is_some (template_named t.name f.templates)) && nat_le most_templates (length f.templates)) (Limit Templates) ∷ [])

-- a template of that name is replaced
abbrev pub template_put : PlainCatalog → Template → PlainCatalog
template_put c t = record c { templates = inserted template_name t (without template_name t.name c.templates) }

-- ---- a new stream

-- a new backing index, which has no rows yet
abbrev pub new_index : List ℕ → Template → ℤ → ℤ → PlainIndex
new_index name t start end = record {
  facts = record {
    name = name;
    origin = name;
    template = t.name;
    start = start;
    end = end;
    blocked = false;
    interval = None;
    mapping = mapping_of t;
  };
  rows = [];
}

-- the window of a first index begins as far before the present as the template looks back, at the earliest at 0
abbrev pub first_start : ℤ → Template → ℤ
first_start now t = int_max (pos 0) (now -ℤ t.look_back)

abbrev pub first_name : List ℕ → ℤ → List ℕ
first_name name now = backing_name name now 1

abbrev pub create_refusal : PlainFacts → List ℕ → ℤ → Option Refusal
create_refusal f name now = first_refusal (
    when (is_taken name f) (NameTaken name)
    ∷ when (is_reserved name) Reserved
    ∷ when (not (is_some (template_for name f.templates))) NoTemplate
    ∷ when (nat_le most_streams (length f.streams)) (Limit Streams)
    ∷ when (nat_le most_indices (length f.indices)) (Limit Indices)
    ∷ when (is_taken (first_name name now) f) (NameTaken (first_name name now)) ∷ [])

abbrev pub new_stream : List ℕ → Template → ℤ → PlainStream
new_stream name t now = record {
  facts = record { name = name; template = t.name; generation = 1; members = first_name name now ∷ [] };
  life = None;
}

abbrev pub created : PlainCatalog → List ℕ → ℤ → PlainCatalog
created c name now = with_found (template_for name c.templates) c (λ t. record c {
  streams = inserted stream_name (new_stream name t now) c.streams;
  indices = inserted index_name (new_index (first_name name now) t (first_start now t) (end_after now t.look_ahead)) c.indices;
})

-- ---- a stream that goes, with its members and their tasks

abbrev pub has_member : PlainStream → List ℕ → Bool
has_member s n = list_any (bytes_eq n) s.facts.members

abbrev pub named_refusal : PlainFacts → List ℕ → Option Refusal
named_refusal f name = on_found (stream_named name f.streams) (NoSuchName name) (λ s. None)

abbrev pub stream_deleted : PlainCatalog → List ℕ → PlainCatalog
stream_deleted c name = with_found (stream_named name c.streams) c (λ s. record c {
  streams = without stream_name name c.streams;
  indices = filter (λ i. not (has_member s i.facts.name)) c.indices;
  tasks = filter (λ t. not (has_member s t.index)) c.tasks;
})

-- ---- a lifecycle

abbrev pub life_set : PlainCatalog → List ℕ → Lifecycle → PlainCatalog
life_set c name life = record c { streams = updated stream_name name (λ s. record s { life = Some life }) c.streams }

-- ---- a new write index

abbrev pub last_of : List (List ℕ) → Option (List ℕ)
last_of [] = None
last_of (n ∷ []) = Some n
last_of (n ∷ m ∷ ms) = last_of (m ∷ ms)

-- members stand by the starts of their windows, so the last one has the greatest
abbrev pub write_name : PlainStream → List ℕ
write_name s = with_found (last_of s.facts.members) [] (λ n. n)

abbrev pub is_write : PlainStream → List ℕ → Bool
is_write s n = bytes_eq (write_name s) n

-- the stream that has an index as its write index
abbrev pub writer_of : PlainFacts → List ℕ → Option PlainStream
writer_of f n = find (λ s. is_write s n) f.streams

abbrev pub next_name : PlainStream → ℤ → List ℕ
next_name s now = backing_name s.facts.name now (s.facts.generation + 1)

abbrev pub rollover_refusal : PlainFacts → List ℕ → ℤ → Option Refusal
rollover_refusal f name now =
    on_found (stream_named name f.streams) (NoSuchName name) (λ s.
    on_found (facts_named (write_name s) f.indices) (NoSuchName (write_name s)) (λ w. first_refusal (
    when (int_eq w.end last_instant) TimeOver
    ∷ when (nat_le greatest_generation s.facts.generation) (Limit Generations)
    ∷ when (nat_le most_indices (length f.indices)) (Limit Indices)
    ∷ when (is_taken (next_name s now) f) (NameTaken (next_name s now)) ∷ [])))

-- the new window begins where the last one ends, and ends as far behind that or the present as the template looks ahead
abbrev pub next_index : PlainStream → Template → HeldIndex → ℤ → PlainIndex
next_index s t w now = new_index (next_name s now) t w.end (end_after (int_max w.end now) t.look_ahead)

abbrev pub with_next : ℤ → PlainStream → PlainStream
with_next now s = record s { facts = record s.facts { generation = s.facts.generation + 1; members = s.facts.members ++ next_name s now ∷ [] } }

abbrev pub rolled_over : PlainCatalog → List ℕ → ℤ → PlainCatalog
rolled_over c name now =
    with_found (stream_named name c.streams) c (λ s.
    with_found (template_named s.facts.template c.templates) c (λ t.
    with_found (index_named (write_name s) c.indices) c (λ w. record c {
      streams = updated stream_name name (with_next now) c.streams;
      indices = inserted index_name (next_index s t w.facts now) c.indices;
    })))

abbrev pub rolled_names : PlainFacts → List ℕ → ℤ → Rolled
rolled_names f name now =
    with_found (stream_named name f.streams) (record { old = []; new = [] }) (λ s. record { old = write_name s; new = next_name s now })
