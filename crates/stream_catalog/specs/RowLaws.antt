-- Which rows the indices have that code holds, and which ones its tasks keep.
use Rattle.std.specs.Prelude.{◌≡◌, ◌↔◌, ℕ, ℤ, List, Option, None, Some}
use Rattle.row_cells.specs.declared.rows.Row.{Row}
use Rattle.row_cells.specs.declared.schemas.Schema.{Schema}
use Rattle.row_cells.specs.Each.{Each}
use Rattle.row_cells.specs.Fitting.{folded_form}
use Rattle.row_cells.specs.KeyedRows.{AreRowsOf}
use Rattle.time_text.specs.Bucket.{bucket_start}
use Rattle.time_text.specs.Interval.{ms_of}
use Rattle.time_text.specs.declared.intervals.Interval.{Interval}
use Rattle.stream_catalog.specs.Lists.{index_named}
use Rattle.stream_catalog.specs.Plain.{PlainIndex, PlainCatalog, facts_of}
use Rattle.stream_catalog.specs.Sound.{IsWithin, Meets, AreFactsSound, IsUnderWay, IsSoundCatalog, IsSeenCatalog}
use Rattle.stream_catalog.specs.Ways.{task_schema, kept_rows}

-- a time is the start of a bucket of n milliseconds, which meets the window
abbrev pub IsBucketIn : ℕ → ℤ → ℤ → ℤ → Type 0
IsBucketIn n start end t = (bucket_start n t ≡ t) × Meets n start end t

-- the times of raw rows are in the window, and those of folded ones are buckets of the interval
abbrev pub StandIn : Option Interval → ℤ → ℤ → List Row → Type 0
StandIn None start end rows = Each (λ row. IsWithin start end row.time) rows
StandIn (Some by) start end rows = Each (λ row. IsBucketIn (ms_of by) start end row.time) rows

-- rows of a schema, in order and few, each at such a time
pub record AreRowsIn (schema : Schema) (interval : Option Interval) (start end : ℤ) (rows : List Row) : Type 0 where
  pub fit : AreRowsOf schema rows
  pub times : StandIn interval start end rows

-- an index has rows of its schema, in its window
abbrev pub HasOwnRows : PlainIndex → Type 0
HasOwnRows i = AreRowsIn i.facts.mapping.schema i.facts.interval i.facts.start i.facts.end i.rows

-- so it is with each index of a catalogue that is seen again itself
abbrev pub ShownRows : Type 0
ShownRows = (c : PlainCatalog) (n : List ℕ) (i : PlainIndex) → IsSeenCatalog c → index_named n c.indices ≡ Some i → HasOwnRows i

-- what a task keeps are rows of the schema by which it folds, as folds, at buckets of its interval
abbrev pub KeptAreRows : Type 0
KeptAreRows = (c : PlainCatalog) → IsSoundCatalog c →
    Each (λ task. (i : PlainIndex) → index_named task.index c.indices ≡ Some i →
    AreRowsIn (folded_form (task_schema task i.facts)) (Some task.by) i.facts.start i.facts.end (kept_rows task i)) c.tasks

-- sound facts, indices with rows of their own, and tasks that have a series to go
pub record IsMadeOf (c : PlainCatalog) : Type 0 where
  pub facts : AreFactsSound (facts_of c)
  pub indices : Each HasOwnRows c.indices
  pub tasks : Each (λ t. IsUnderWay t.done (index_named t.index c.indices)) c.tasks

-- that is all that a catalogue needs to be sound and seen again itself
abbrev pub SeenIsMade : Type 0
SeenIsMade = (c : PlainCatalog) → IsSeenCatalog c ↔ IsMadeOf c
