-- What each change of a catalogue leaves of its facts.
use Rattle.std.specs.Prelude.{◌≡◌, ℕ, ℤ, not, List, map, filter, Option, Some, None}
use Rattle.std.specs.Option.{option_map}
use Rattle.std.proofs.Common.{refl, ap, ◌∙◌, sym}
use Rattle.time_text.specs.declared.intervals.Interval.{Interval}
use Rattle.lifecycle_swap.specs.Ends.{end_after}
use Rattle.ts_mapping.specs.declared.templates.Template.{Template}
use Rattle.stream_catalog.specs.declared.facts.HeldIndex.{HeldIndex}
use Rattle.stream_catalog.specs.declared.facts.TaskFacts.{TaskFacts}
use Rattle.stream_catalog.specs.Plain.{PlainIndex, PlainStream, PlainCatalog, PlainFacts, facts_of}
use Rattle.stream_catalog.specs.Ways.{Way}
use Rattle.stream_catalog.specs.Lists.{with_found, updated, inserted, without, stream_name, index_name, facts_name, template_named, stream_named, facts_named, index_named}
use Rattle.stream_catalog.specs.Names.{template_for}
use Rattle.stream_catalog.specs.Streams.{first_name, first_start, new_index, new_stream, created, has_member, stream_deleted, write_name, next_index, with_next, rolled_over}
use Rattle.stream_catalog.specs.Indices.{blocked_index, blocked_in, folded_facts, folded_index, downsampled, without_member, task_index, index_deleted}
use Rattle.stream_catalog.specs.FactChanges.{ChangesTellFacts, blocked_facts, facts_blocked, facts_created, facts_downsampled, facts_rolled_over, facts_without_index, facts_without_stream}
use Rattle.stream_catalog.proofs.NamedLemmas.{updated-map, inserted-map, without-map, filter-map_alike}
use Rattle.stream_catalog.proofs.ChangeLemmas.{facts_named-facts}

abbrev index_facts : PlainIndex → HeldIndex
index_facts i = i.facts

abbrev facts_with : PlainCatalog → List PlainStream → List TaskFacts → List HeldIndex → PlainFacts
facts_with c ss ts is = record { templates = c.templates; streams = ss; indices = is; tasks = ts }

created-facts : (c : PlainCatalog) (name : List ℕ) (now : ℤ) → facts_of (created c name now) ≡ facts_created (facts_of c) name now
created-facts c name now = by_found (template_for name c.templates)
  where
    with_new : Template → PlainCatalog
    with_new t = record c {
      streams = inserted stream_name (new_stream name t now) c.streams;
      indices = inserted index_name (new_index (first_name name now) t (first_start now t) (end_after now t.look_ahead)) c.indices;
    }

    facts_new : Template → PlainFacts
    facts_new t = facts_with c (inserted stream_name (new_stream name t now) c.streams) c.tasks
        (inserted facts_name (new_index (first_name name now) t (first_start now t) (end_after now t.look_ahead)).facts (map index_facts c.indices))

    by_found : (o : Option Template) → facts_of (with_found o c with_new) ≡ with_found o (facts_of c) facts_new
    by_found None = refl
    by_found (Some t) =
        ap (facts_with c (inserted stream_name (new_stream name t now) c.streams) c.tasks)
        (inserted-map index_facts index_name facts_name (λ i. refl) (new_index (first_name name now) t (first_start now t) (end_after now t.look_ahead)) c.indices)

stream_deleted-facts : (c : PlainCatalog) (name : List ℕ) → facts_of (stream_deleted c name) ≡ facts_without_stream (facts_of c) name
stream_deleted-facts c name = by_found (stream_named name c.streams)
  where
    gone : PlainStream → PlainCatalog
    gone s = record c {
      streams = without stream_name name c.streams;
      indices = filter (λ i. not (has_member s i.facts.name)) c.indices;
      tasks = filter (λ t. not (has_member s t.index)) c.tasks;
    }

    facts_gone : PlainStream → PlainFacts
    facts_gone s = facts_with c (without stream_name name c.streams) (filter (λ t. not (has_member s t.index)) c.tasks)
        (filter (λ i. not (has_member s i.name)) (map index_facts c.indices))

    by_found : (o : Option PlainStream) → facts_of (with_found o c gone) ≡ with_found o (facts_of c) facts_gone
    by_found None = refl
    by_found (Some s) =
        ap (facts_with c (without stream_name name c.streams) (filter (λ t. not (has_member s t.index)) c.tasks))
        (filter-map_alike index_facts (λ i. not (has_member s i.facts.name)) (λ i. not (has_member s i.name)) (λ i. refl) c.indices)

rolled_over-facts : (c : PlainCatalog) (name : List ℕ) (now : ℤ) → facts_of (rolled_over c name now) ≡ facts_rolled_over (facts_of c) name now
rolled_over-facts c name now = by_stream (stream_named name c.streams)
  where
    next : PlainStream → Template → PlainIndex → PlainCatalog
    next s t w = record c {
      streams = updated stream_name name (with_next now) c.streams;
      indices = inserted index_name (next_index s t w.facts now) c.indices;
    }

    facts_next : PlainStream → Template → HeldIndex → PlainFacts
    facts_next s t w = facts_with c (updated stream_name name (with_next now) c.streams) c.tasks (inserted facts_name (next_index s t w now).facts (map index_facts c.indices))

    by_index : (s : PlainStream) (t : Template) (o : Option PlainIndex) → facts_of (with_found o c (next s t)) ≡ with_found (option_map index_facts o) (facts_of c) (facts_next s t)
    by_index s t None = refl
    by_index s t (Some w) =
        ap (facts_with c (updated stream_name name (with_next now) c.streams) c.tasks)
        (inserted-map index_facts index_name facts_name (λ i. refl) (next_index s t w.facts now) c.indices)

    by_template : (s : PlainStream) (o : Option Template) →
        facts_of (with_found o c (λ t. with_found (index_named (write_name s) c.indices) c (next s t)))
        ≡ with_found o (facts_of c) (λ t. with_found (facts_named (write_name s) (map index_facts c.indices)) (facts_of c) (facts_next s t))
    by_template s None = refl
    by_template s (Some t) =
        by_index s t (index_named (write_name s) c.indices)
        ∙ ap (λ o. with_found o (facts_of c) (facts_next s t)) (sym (facts_named-facts (write_name s) c.indices))

    by_stream : (o : Option PlainStream) →
        facts_of (with_found o c (λ s. with_found (template_named s.facts.template c.templates) c (λ t. with_found (index_named (write_name s) c.indices) c (next s t))))
        ≡ with_found o (facts_of c) (λ s. with_found (template_named s.facts.template c.templates) (facts_of c) (λ t. with_found (facts_named (write_name s) (map index_facts c.indices)) (facts_of c) (facts_next s t)))
    by_stream None = refl
    by_stream (Some s) = by_template s (template_named s.facts.template c.templates)

blocked-facts : (c : PlainCatalog) (n : List ℕ) → facts_of (blocked_in c n) ≡ facts_blocked (facts_of c) n
blocked-facts c n =
    ap (facts_with c c.streams c.tasks) (updated-map index_facts index_name facts_name (λ i. refl) n blocked_index blocked_facts c.indices (λ i found. refl))

downsampled-facts : (way : Way) (c : PlainCatalog) (source target : List ℕ) (by : Interval) → facts_of (downsampled way c source target by) ≡ facts_downsampled (facts_of c) source target by
downsampled-facts way c source target by =
    by_found (index_named source c.indices) ∙ ap (λ o. with_found o (facts_of c) facts_folded) (sym (facts_named-facts source c.indices))
  where
    folded : PlainIndex → PlainCatalog
    folded i = record c { indices = inserted index_name (folded_index way target i.facts.mapping.schema.rises by i) c.indices }

    facts_folded : HeldIndex → PlainFacts
    facts_folded i = facts_with c c.streams c.tasks (inserted facts_name (folded_facts target i.mapping.schema.rises by i) (map index_facts c.indices))

    by_found : (o : Option PlainIndex) → facts_of (with_found o c folded) ≡ with_found (option_map index_facts o) (facts_of c) facts_folded
    by_found None = refl
    by_found (Some i) =
        ap (facts_with c c.streams c.tasks)
        (inserted-map index_facts index_name facts_name (λ j. refl) (folded_index way target i.facts.mapping.schema.rises by i) c.indices)

deleted-facts : (c : PlainCatalog) (n : List ℕ) → facts_of (index_deleted c n) ≡ facts_without_index (facts_of c) n
deleted-facts c n =
    ap (facts_with c (map (without_member n) c.streams) (without task_index n c.tasks)) (without-map index_facts index_name facts_name (λ i. refl) n c.indices)

pub changes_tell_facts : ChangesTellFacts
changes_tell_facts = record {
  templates = λ c t. refl;
  creations = created-facts;
  stream_deletions = stream_deleted-facts;
  lives = λ c name life. refl;
  rollovers = rolled_over-facts;
  blocks = blocked-facts;
  downsamples = downsampled-facts;
  deletions = deleted-facts;
  moves = λ c moves. refl;
}
