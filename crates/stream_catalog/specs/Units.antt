-- One unit: the oldest task goes on by a series.
use Rattle.std.specs.Prelude.{ℕ, ◌+◌, ◌==◌, List, [], ◌∷◌, map, length, bytes_eq, Option, Some, None, if◌then◌else◌}
use Rattle.downsample_fold.specs.Laws.{series_of}
use Rattle.stream_catalog.specs.declared.facts.TaskFacts.{TaskFacts}
use Rattle.stream_catalog.specs.Plain.{PlainIndex, PlainStream, PlainCatalog}
use Rattle.stream_catalog.specs.Ways.{Way}
use Rattle.stream_catalog.specs.Lists.{inserted, without, index_name, index_named}
use Rattle.stream_catalog.specs.Indices.{folded_index}

abbrev pub renamed : List ℕ → List ℕ → List ℕ → List ℕ
renamed old new n = if bytes_eq n old then new else n

abbrev pub with_renamed : List ℕ → List ℕ → PlainStream → PlainStream
with_renamed old new s = record s { facts = record s.facts { members = map (renamed old new) s.facts.members } }

-- the fold of a task in the place of its index, also in its stream
abbrev pub swapped : Way → PlainCatalog → TaskFacts → PlainIndex → PlainCatalog
swapped way c task i = record c {
  streams = map (with_renamed i.facts.name task.target) c.streams;
  indices = inserted index_name (folded_index way task.target task.rises task.by i) (without index_name i.facts.name c.indices);
}

-- one series more, unless there is none
abbrev pub next_done : ℕ → ℕ → ℕ
next_done done series = if done == series then done else done + 1

-- with the last series the fold takes the index's place and the task goes
abbrev pub advanced : Way → PlainCatalog → TaskFacts → List TaskFacts → PlainIndex → PlainCatalog
advanced way c task tasks i =
    let series = length (series_of i.rows) in
    if next_done task.done series == series then swapped way (record c { tasks = tasks }) task i
    else record c { tasks = record task { done = next_done task.done series } ∷ tasks }

abbrev pub advanced_at : Way → PlainCatalog → TaskFacts → List TaskFacts → Option PlainIndex → PlainCatalog
advanced_at way c task tasks None = c
advanced_at way c task tasks (Some i) = advanced way c task tasks i

abbrev pub unit_from : Way → PlainCatalog → List TaskFacts → PlainCatalog
unit_from way c [] = c
unit_from way c (task ∷ tasks) = advanced_at way c task tasks (index_named task.index c.indices)

-- without a task all stays
unfoldable pub unit_of : Way → PlainCatalog → PlainCatalog
unit_of way c = unit_from way c c.tasks
