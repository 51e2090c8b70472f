-- Folds of what is shown are folds of what there is.
use Rattle.std.specs.Prelude.{◌≡◌, ℕ, pos, ◌%◌, ◌==◌, nat_le, Bool, List, ◌∷◌, filter, take, Option, Some, None, true, false, if◌then◌else◌}
use Rattle.std.specs.Option.{option_map}
use Rattle.std.proofs.Common.{refl, ap, ◌∙◌, sym}
use Rattle.std.proofs.lemmas.Bool.Decides.{Decides-eqb}
use Rattle.row_cells.specs.declared.schemas.Schema.{Schema}
use Rattle.row_cells.specs.declared.rows.Row.{Row}
use Rattle.time_text.specs.declared.intervals.Interval.{Interval}
use Rattle.time_text.specs.Interval.{ms_of}
use Rattle.downsample_fold.specs.declared.intervals.IntervalError.{IntervalError}
use Rattle.downsample_fold.specs.declared.intervals.IntervalError.TheVariants.{NotGreater, NotMultiple}
use Rattle.downsample_fold.specs.Intervals.{fault_after, interval_fault}
use Rattle.downsample_fold.specs.Conditions.{HaveCells}
use Rattle.downsample_fold.specs.Direct.{down}
use Rattle.downsample_fold.specs.Places.{has_key, keys_of}
use Rattle.downsample_fold.specs.Laws.{series_of}
use Rattle.row_cells.specs.OrderLaws.{in_row_order-same, in_row_order-ascends}
use Rattle.downsample_fold.specs.FoldLaws.{folds_compose, folds_sorted}
use Rattle.downsample_fold.specs.SeriesLaws.{folds_some_series}
use Rattle.stream_catalog.specs.declared.facts.HeldIndex.{HeldIndex}
use Rattle.stream_catalog.specs.declared.facts.TaskFacts.{TaskFacts}
use Rattle.stream_catalog.specs.Plain.{PlainIndex}
use Rattle.stream_catalog.specs.Ways.{shown_by, plain_way, seen_way, see_index, task_schema, kept_rows}
use Rattle.stream_catalog.specs.Lists.{when, first_refusal}
use Rattle.stream_catalog.specs.declared.answers.Refusal.{Refusal}
use Rattle.stream_catalog.specs.Indices.{folded_facts, folded_index}
use Rattle.stream_catalog.specs.Sound.{KeepsMark, IsTaskOf, IsIndexSound}
use Rattle.downsample_fold.specs.SettleLaws.{folds_any_form, folds_keep_series}
use Rattle.stream_catalog.proofs.SeenLemmas.{some_ms, cells_of}

-- ---- intervals

-- what was folded by one may be folded by a multiple; a mark stays
abbrev pub MayFold : Option Interval → Bool → Bool → Interval → Type 0
MayFold None had rises by = Unit {0}
MayFold (Some before) had rises by = (rises ≡ had) × (ms_of by % ms_of before ≡ 0)

multiple_of : (had asked : ℕ) → fault_after had asked ≡ None → asked % had ≡ 0
multiple_of had asked none = by_tests (nat_le asked had) ((asked % had) == 0) refl none
  where
    no : {e : IntervalError} → Some e ≡ None → ⊥
    no e = cc

    zero_of : (k : ℕ) → (k == 0) ≡ true → k ≡ 0
    zero_of k is = (Decides-eqb k 0).0 is

    by_tests : (a b : Bool) → ((asked % had) == 0) ≡ b → (if a then Some (NotGreater (pos had) (pos asked)) else (if b then None else Some (NotMultiple (pos had) (pos asked)))) ≡ None → asked % had ≡ 0
    by_tests true b is none = absurd (no none)
    by_tests false true is none = zero_of (asked % had) is
    by_tests false false is none = absurd (no none)

pub may_fold : (interval : Option Interval) (had rises : Bool) (by : Interval) → interval_fault interval by ≡ None → KeepsMark interval had rises → MayFold interval had rises by
may_fold None had rises by none mark = tt
may_fold (Some before) had rises by none mark = (mark, multiple_of (ms_of before) (ms_of by) none)

pub same_mark : (interval : Option Interval) (had : Bool) → KeepsMark interval had had
same_mark None had = tt
same_mark (Some by) had = refl

pub task_may : (by : Interval) (rises : Bool) (facts : HeldIndex) → IsTaskOf by rises (Some facts) → MayFold facts.interval facts.mapping.schema.rises rises by
task_may by rises facts holds = may_fold facts.interval facts.mapping.schema.rises rises by holds.1 holds.2

-- ---- rows

-- a fold of what is shown is the fold of what there is
pub down_shown : (interval : Option Interval) (schema : Schema) (rises : Bool) (rows : List Row) (by : Interval) → HaveCells schema rows → MayFold interval schema.rises rises by →
    down (record schema { rises = rises }) (shown_by interval schema rows) (ms_of by) ≡ down (record schema { rises = rises }) rows (ms_of by)
down_shown None schema rises rows by cells may = folds_sorted (record schema { rises = rises }) rows (ms_of by)
down_shown (Some before) schema rises rows by cells may =
    let marked : Schema = record schema { rises = rises } in
    let once = down marked rows (ms_of before) in
    ap (λ b. down marked (down (record schema { rises = b }) rows (ms_of before)) (ms_of by)) (sym may.0)
    ∙ (sym (folds_any_form marked true once (ms_of by))
    ∙ folds_compose marked rows (ms_of before) (ms_of by) cells (some_ms before) (some_ms by) may.1)

-- what is shown has the series of what there is
pub series_shown : (interval : Option Interval) (schema : Schema) (rows : List Row) → HaveCells schema rows → series_of (shown_by interval schema rows) ≡ series_of rows
series_shown None schema rows cells = ap keys_of (in_row_order-same _ (in_row_order-ascends rows))
series_shown (Some by) schema rows cells = folds_keep_series schema rows (ms_of by) cells (some_ms by)

pub series_seen : (i : PlainIndex) → IsIndexSound i → series_of (see_index i).rows ≡ series_of i.rows
series_seen i sound = series_shown i.facts.interval i.facts.mapping.schema i.rows (cells_of i sound)

-- ---- indices

pub folded_index-seen : (target : List ℕ) (rises : Bool) (by : Interval) (i : PlainIndex) → IsIndexSound i → MayFold i.facts.interval i.facts.mapping.schema.rises rises by →
    see_index (folded_index plain_way target rises by i) ≡ folded_index seen_way target rises by (see_index i)
folded_index-seen target rises by i sound may =
    ap (λ rows. folded_by rows)
    (folds_any_form (record i.facts.mapping.schema { rises = rises }) true i.rows (ms_of by)
    ∙ sym (down_shown i.facts.interval i.facts.mapping.schema rises i.rows by (cells_of i sound) may))
  where
    folded_by : List Row → PlainIndex
    folded_by rows = record { facts = folded_facts target rises by i.facts; rows = rows }

-- what a task keeps of what is shown is what it keeps of all
pub kept_of_base : (task : TaskFacts) (i : PlainIndex) → IsIndexSound i → MayFold i.facts.interval i.facts.mapping.schema.rises task.rises task.by → kept_rows task (see_index i) ≡ kept_rows task i
kept_of_base task i sound may =
    let base = i.facts.mapping.schema in
    let shown = shown_by i.facts.interval base i.rows in
    let schema = task_schema task i.facts in
    let n = ms_of task.by in
    let chosen : List (List ℕ) → List ℕ → Bool = λ series key. has_key (take task.done series) key in
    folds_some_series schema shown n (chosen (series_of shown))
    ∙ (ap (λ series. filter (λ row. chosen series row.key) (down schema shown n)) (series_shown i.facts.interval base i.rows (cells_of i sound))
    ∙ (ap (filter (λ row. chosen (series_of i.rows) row.key)) (down_shown i.facts.interval base task.rises i.rows task.by (cells_of i sound) may)
    ∙ sym (folds_some_series schema i.rows n (chosen (series_of i.rows)))))

-- ---- refusals

-- where none refuses, the first test doesn't, nor do the others
pub none_first : (o : Option Refusal) (rest : List (Option Refusal)) → first_refusal (o ∷ rest) ≡ None → (o ≡ None) × (first_refusal rest ≡ None)
none_first (Some refusal) rest none = absurd (no none)
  where
    no : Some refusal ≡ None → ⊥
    no e = cc
none_first None rest none = (refl, none)

pub none_when : {A : Type 0} (b : Bool) (a : A) → when b a ≡ None → b ≡ false
none_when true a none = absurd (no none)
  where
    no : Some a ≡ None → ⊥
    no e = cc
none_when false a none = refl

pub none_map : {A B : Type 0} (f : A → B) (o : Option A) → option_map f o ≡ None → o ≡ None
none_map f None none = refl
none_map f (Some a) none = absurd (no none)
  where
    no : Some (f a) ≡ None → ⊥
    no e = cc
