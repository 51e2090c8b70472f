-- A catalogue: templates, streams, indices with their rows, and tasks.
use Rattle.std.specs.Prelude.{List, map, Option}
use Rattle.row_cells.specs.declared.rows.Row.{Row}
use Rattle.ts_mapping.specs.declared.templates.Template.{Template}
use Rattle.lifecycle_swap.specs.declared.lifecycles.Lifecycle.{Lifecycle}
use Rattle.stream_catalog.specs.declared.facts.HeldIndex.{HeldIndex}
use Rattle.stream_catalog.specs.declared.facts.StreamFacts.{StreamFacts}
use Rattle.stream_catalog.specs.declared.facts.TaskFacts.{TaskFacts}

-- An index. In a plain machine the rows are those of the documents that it took, in the order in which they came, behind those of
-- the records that it was made from, which may be folded; in what is seen of it, those that answer.
pub record PlainIndex : Type 0 where
  pub facts : HeldIndex
  pub rows : List Row

-- a stream, and its lifecycle if one was set
pub record PlainStream : Type 0 where
  pub facts : StreamFacts
  pub life : Option Lifecycle

-- templates, streams and indices stand by their names, tasks with the oldest first
pub record PlainCatalog : Type 0 where
  pub templates : List Template
  pub streams : List PlainStream
  pub indices : List PlainIndex
  pub tasks : List TaskFacts

-- the same without rows
pub record PlainFacts : Type 0 where
  pub templates : List Template
  pub streams : List PlainStream
  pub indices : List HeldIndex
  pub tasks : List TaskFacts

abbrev pub facts_of : PlainCatalog → PlainFacts
facts_of c = record { templates = c.templates; streams = c.streams; indices = map (λ i. i.facts) c.indices; tasks = c.tasks }
