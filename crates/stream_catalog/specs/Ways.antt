-- What a machine does with rows: as a plain machine, which keeps every document, and as what is seen of it.
use Rattle.std.specs.Prelude.{List, [], ◌∷◌, ◌++◌, map, Option, Some, None}
use Rattle.row_cells.specs.declared.rows.Row.{Row}
use Rattle.row_cells.specs.declared.schemas.Schema.{Schema}
use Rattle.row_cells.specs.RowLists.{in_row_order, insert_row}
use Rattle.time_text.specs.declared.intervals.Interval.{Interval}
use Rattle.time_text.specs.Interval.{ms_of}
use Rattle.downsample_fold.specs.Direct.{down}
use Rattle.downsample_fold.specs.Laws.{rows_of_first}
use Rattle.stream_catalog.specs.declared.facts.HeldIndex.{HeldIndex}
use Rattle.stream_catalog.specs.declared.facts.TaskFacts.{TaskFacts}
use Rattle.stream_catalog.specs.Plain.{PlainIndex, PlainCatalog}

-- the rows that answer: of a raw index all, of a folded one its direct fold
abbrev pub shown_by : Option Interval → Schema → List Row → List Row
shown_by None schema rows = in_row_order rows
shown_by (Some by) schema rows = down schema rows (ms_of by)

-- which rows of an index answer, what a new one makes of them, and what is left where they are folded
pub record Way : Type 0 where
  pub shown : HeldIndex → List Row → List Row
  pub added : Row → List Row → List Row
  pub folded : Schema → Interval → List Row → List Row

-- every accepted document stays for good
abbrev pub plain_way : Way
plain_way = record {
  shown = λ facts rows. shown_by facts.interval facts.mapping.schema rows;
  added = λ row rows. rows ++ row ∷ [];
  folded = λ schema by rows. rows;
}

-- only what answers stays
abbrev pub seen_way : Way
seen_way = record {
  shown = λ facts rows. rows;
  added = insert_row;
  folded = λ schema by rows. down schema rows (ms_of by);
}

-- an index as what it shows
abbrev pub see_index : PlainIndex → PlainIndex
see_index i = record i { rows = plain_way.shown i.facts i.rows }

abbrev pub see_catalog : PlainCatalog → PlainCatalog
see_catalog c = record c { indices = map see_index c.indices }

-- the schema by which a task folds
abbrev pub task_schema : TaskFacts → HeldIndex → Schema
task_schema task facts = record facts.mapping.schema { rises = task.rises }

-- the folded rows of as many first series as a task has done
abbrev pub kept_rows : TaskFacts → PlainIndex → List Row
kept_rows task i = down (task_schema task i.facts) (rows_of_first task.done i.rows) (ms_of task.by)
