-- What a task keeps are rows.
use Rattle.std.specs.Prelude.{◌≡◌, ◌≤◌, ◌+◌, ℕ, ℤ, Bool, true, false, cond, List, [], ◌∷◌, filter, Option, Some, None}
use Rattle.std.proofs.Common.{refl, subst, arith, inl, inr}
use Rattle.row_cells.specs.declared.rows.Row.{Row}
use Rattle.row_cells.specs.declared.schemas.Schema.{Schema}
use Rattle.row_cells.specs.EachLaws.{Each-weaker, Each-filter}
use Rattle.row_cells.specs.Fitting.{folded_form}
use Rattle.row_cells.specs.KeyedRows.{IsRowOf}
use Rattle.row_cells.specs.Mapped.{IsMapped}
use Rattle.row_cells.specs.Order.{row_cmp}
use Rattle.row_cells.specs.RowLists.{AreDistinct, documents}
use Rattle.std.specs.declared.cmp.Ordering.TheVariants.{Equal}
use Rattle.time_text.specs.declared.intervals.Interval.{Interval}
use Rattle.time_text.specs.Bucket.{bucket_start}
use Rattle.time_text.specs.Interval.{ms_of}
use Rattle.downsample_fold.specs.Laws.{rows_of_first}
use Rattle.downsample_fold.specs.SettleLaws.{folds_any_form}
use Rattle.stream_catalog.specs.declared.facts.TaskFacts.{TaskFacts}
use Rattle.stream_catalog.specs.Indices.{folded_index}
use Rattle.stream_catalog.specs.Lists.{index_named, facts_named}
use Rattle.stream_catalog.specs.Plain.{PlainIndex, facts_of}
use Rattle.stream_catalog.specs.RowLaws.{AreRowsIn, KeptAreRows}
use Rattle.stream_catalog.specs.Sound.{raw_form, IsWithin, AreRaw, Meets, AreFolds, AreRows, IsTaskOf, IsIndexSound}
use Rattle.stream_catalog.specs.Ways.{plain_way, task_schema, kept_rows}
use Rattle.stream_catalog.proofs.CatalogLemmas.{held_of, sound_of, task_of}
use Rattle.stream_catalog.proofs.FoldedLemmas.{MayFold}
use Rattle.stream_catalog.proofs.ShownLemmas.{shown_own}
use Rattle.stream_catalog.proofs.WiderLemmas.{folded_index-sound}

-- ---- an index with some of its rows is sound

module _ (test : Row → Bool) where
  raw_some : (schema : Schema) (start end : ℤ) (rows : List Row) → AreRaw schema start end rows → AreRaw schema start end (filter test rows)
  raw_some schema start end rows raw = record {
    each = Each-filter (IsRowOf (raw_form schema)) test rows raw.each;
    within = Each-filter (λ row. IsWithin start end row.time) test rows raw.within;
  }

  folds_some : (schema : Schema) (start end : ℤ) (n : ℕ) (rows : List Row) → AreFolds schema start end n rows → AreFolds schema start end n (filter test rows)
  folds_some schema start end n rows folds = record {
    by = folds.by;
    some = folds.some;
    divides = folds.divides;
    each = Each-filter (IsRowOf (folded_form schema)) test rows folds.each;
    starts = Each-filter (λ row. bucket_start folds.by row.time ≡ row.time) test rows folds.starts;
    meet = Each-filter (λ row. Meets n start end (bucket_start n row.time)) test rows folds.meet;
  }

  rows_some : (interval : Option Interval) (schema : Schema) (start end : ℤ) (rows : List Row) → AreRows interval schema start end rows → AreRows interval schema start end (filter test rows)
  rows_some None schema start end rows are = raw_some schema start end rows are
  rows_some (Some by) schema start end rows are =
      elim are [ inl raw ↦ inl (raw_some schema start end rows raw) | inr folds ↦ inr (folds_some schema start end (ms_of by) rows folds) ]

  distinct_some : (rows : List Row) → AreDistinct rows → AreDistinct (filter test rows)
  distinct_some [] distinct = tt
  distinct_some (row ∷ rows) distinct = by_test (test row) (distinct_some rows distinct.1)
    where
      by_test : (b : Bool) → AreDistinct (filter test rows) → AreDistinct (cond b (row ∷ filter test rows) (filter test rows))
      by_test true later = (Each-filter (λ other. row_cmp row other ≡ Equal → ⊥) test rows distinct.0, later)
      by_test false later = later

  documents_some : (rows : List Row) → documents (filter test rows) ≤ documents rows
  documents_some [] = omega arith
  documents_some (row ∷ rows) = by_test (test row) (documents_some rows)
    where
      by_test : (b : Bool) → documents (filter test rows) ≤ documents rows → documents (cond b (row ∷ filter test rows) (filter test rows)) ≤ row.count + documents rows
      by_test true later = omega (arith, later)
      by_test false later = omega (arith, later)

  index_some : (i : PlainIndex) → IsIndexSound i → IsIndexSound (record i { rows = filter test i.rows })
  index_some i sound = record {
    rows = rows_some i.facts.interval i.facts.mapping.schema i.facts.start i.facts.end i.rows sound.rows;
    distinct = distinct_some i.rows sound.distinct;
    few = let less = documents_some i.rows in let few = sound.few in omega (arith, less, few);
  }

-- ---- what a task keeps is what its fold would show of the first series

fold_mapped : (schema : Schema) (rises : Bool) → IsMapped schema → IsMapped (record schema { folded = true; rises = rises })
fold_mapped schema rises mapped = record { ascending = mapped.ascending; paths = mapped.paths; routing = mapped.routing }

kept_own : (task : TaskFacts) (i : PlainIndex) → IsMapped i.facts.mapping.schema → IsIndexSound i → MayFold i.facts.interval i.facts.mapping.schema.rises task.rises task.by →
    AreRowsIn (folded_form (task_schema task i.facts)) (Some task.by) i.facts.start i.facts.end (kept_rows task i)
kept_own task i mapped sound may =
    let schema = task_schema task i.facts in
    let first = rows_of_first task.done i.rows in
    let part : PlainIndex = record i { rows = first } in
    let fold = folded_index plain_way task.target task.rises task.by part in
    subst (AreRowsIn (folded_form schema) (Some task.by) i.facts.start i.facts.end) (folds_any_form schema true first (ms_of task.by))
    (shown_own fold (refl, refl) (fold_mapped i.facts.mapping.schema task.rises mapped)
    (folded_index-sound task.target task.rises task.by part (index_some _ i sound) may))

pub kept_are_rows : KeptAreRows
kept_are_rows c sound =
    Each-weaker (λ task. IsTaskOf task.by task.rises (facts_named task.index (facts_of c).indices))
    (λ task. (i : PlainIndex) → index_named task.index c.indices ≡ Some i → AreRowsIn (folded_form (task_schema task i.facts)) (Some task.by) i.facts.start i.facts.end (kept_rows task i))
    (λ task holds i found. kept_own task i (held_of c task.index i sound found).mapping.schema.mapped (sound_of c task.index i sound found) (task_of c task i found holds)) c.tasks sound.facts.tasks
