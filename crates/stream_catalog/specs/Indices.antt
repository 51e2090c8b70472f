-- Single indices: what refuses each change, and what it leaves.
use Rattle.std.specs.Prelude.{ℕ, Bool, not, List, [], ◌∷◌, filter, map, length, nat_le, bytes_eq, Option, Some, None, true}
use Rattle.std.specs.Option.{option_map}
use Rattle.time_text.specs.declared.intervals.Interval.{Interval}
use Rattle.downsample_fold.specs.Intervals.{interval_fault}
use Rattle.index_names.specs.Backing.{is_reserved}
use Rattle.ts_mapping.specs.declared.templates.Mapping.{Mapping}
use Rattle.stream_catalog.specs.declared.answers.Refusal.{Refusal}
use Rattle.stream_catalog.specs.declared.answers.Refusal.TheVariants.{NoSuchName, NameTaken, Reserved, IsWriteIndex, NotBlocked, Interval as BadInterval, Limit}
use Rattle.stream_catalog.specs.declared.answers.What.TheVariants.{Indices}
use Rattle.stream_catalog.specs.declared.facts.HeldIndex.{HeldIndex}
use Rattle.stream_catalog.specs.declared.facts.TaskFacts.{TaskFacts}
use Rattle.stream_catalog.specs.Plain.{PlainIndex, PlainStream, PlainCatalog, PlainFacts}
use Rattle.stream_catalog.specs.Ways.{Way}
use Rattle.stream_catalog.specs.Lists.{when, on_found, with_found, first_refusal, updated, inserted, without, index_name, facts_named, index_named}
use Rattle.stream_catalog.specs.Limits.{most_indices}
use Rattle.stream_catalog.specs.Names.{is_taken}
use Rattle.stream_catalog.specs.Streams.{writer_of}

-- ---- an index takes no documents any more, also where it took none

abbrev pub block_refusal : PlainFacts → List ℕ → Option Refusal
block_refusal f n = on_found (facts_named n f.indices) (NoSuchName n) (λ i. None)

abbrev pub blocked_index : PlainIndex → PlainIndex
blocked_index i = record i { facts = record i.facts { blocked = true } }

abbrev pub blocked_in : PlainCatalog → List ℕ → PlainCatalog
blocked_in c n = record c { indices = updated index_name n blocked_index c.indices }

-- ---- a fold of an index

-- a stream's write index is neither folded nor deleted
abbrev pub write_fault : PlainFacts → List ℕ → Option Refusal
write_fault f n = option_map (λ s. IsWriteIndex s.facts.name n) (writer_of f n)

abbrev pub downsample_refusal : PlainFacts → List ℕ → List ℕ → Interval → Option Refusal
downsample_refusal f source target by = on_found (facts_named source f.indices) (NoSuchName source) (λ i. first_refusal (
    when (is_taken target f) (NameTaken target)
    ∷ when (is_reserved target) Reserved
    ∷ write_fault f source
    ∷ when (not i.blocked) NotBlocked
    ∷ option_map BadInterval (interval_fault i.interval by)
    ∷ when (nat_le most_indices (length f.indices)) (Limit Indices) ∷ []))

-- the mapping of a fold: its counters keep their rise or not
abbrev pub folded_mapping : Bool → Mapping → Mapping
folded_mapping rises m = record m { schema = record m.schema { folded = true; rises = rises } }

-- the facts of a fold: all is as in its source but for name, interval and form, and it takes no documents
abbrev pub folded_facts : List ℕ → Bool → Interval → HeldIndex → HeldIndex
folded_facts target rises by facts = record facts { name = target; blocked = true; interval = Some by; mapping = folded_mapping rises facts.mapping }

-- the fold of an index under another name
abbrev pub folded_index : Way → List ℕ → Bool → Interval → PlainIndex → PlainIndex
folded_index way target rises by i = record {
  facts = folded_facts target rises by i.facts;
  rows = way.folded (record i.facts.mapping.schema { rises = rises }) by i.rows;
}

-- The fold stands beside its source, in no stream. Its counters keep their rise where those of the source do, and a raw index's do.
abbrev pub downsampled : Way → PlainCatalog → List ℕ → List ℕ → Interval → PlainCatalog
downsampled way c source target by = with_found (index_named source c.indices) c (λ i.
    record c { indices = inserted index_name (folded_index way target i.facts.mapping.schema.rises by i) c.indices })

-- ---- an index that goes, with its task

abbrev pub delete_refusal : PlainFacts → List ℕ → Option Refusal
delete_refusal f n = on_found (facts_named n f.indices) (NoSuchName n) (λ i. write_fault f n)

abbrev pub without_member : List ℕ → PlainStream → PlainStream
without_member n s = record s { facts = record s.facts { members = filter (λ m. not (bytes_eq m n)) s.facts.members } }

abbrev pub task_index : TaskFacts → List ℕ
task_index t = t.index

abbrev pub index_deleted : PlainCatalog → List ℕ → PlainCatalog
index_deleted c n = record c {
  streams = map (without_member n) c.streams;
  indices = without index_name n c.indices;
  tasks = without task_index n c.tasks;
}
