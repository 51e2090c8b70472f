-- What is seen of a sound index is sound, and seen again itself.
use Rattle.std.specs.Prelude.{◌≡◌, ℕ, ℤ, Bool, ◌<◌, ◌≤◌, ◌⊎◌, List, Option, Some, None, true, false}
use Rattle.std.proofs.Common.{ap, ◌∙◌, sym, subst, inl, inr}
use Rattle.std.proofs.Math.Nat.{mod_self}
use Rattle.row_cells.specs.declared.schemas.Schema.{Schema}
use Rattle.row_cells.specs.declared.rows.Row.{Row}
use Rattle.row_cells.specs.Each.{Each}
use Rattle.row_cells.specs.EachLaws.{Each-weaker, Each-both}
use Rattle.row_cells.specs.Fitting.{Fits, folded_form}
use Rattle.row_cells.specs.Mapped.{IsMapped}
use Rattle.row_cells.specs.RowLists.{AreInRowOrder, in_row_order, AllFit, documents}
use Rattle.time_text.specs.declared.intervals.Interval.{Interval}
use Rattle.time_text.specs.Bucket.{bucket_start}
use Rattle.time_text.specs.Interval.{ms_of}
use Rattle.time_text.specs.BucketLaws.{bucket_start-bucket_start}
use Rattle.downsample_fold.specs.Conditions.{HaveCells}
use Rattle.row_cells.specs.RowLists.{AreDistinct}
use Rattle.downsample_fold.specs.Direct.{down}
use Rattle.row_cells.specs.OrderLaws.{in_row_order-same, in_row_order-ascends, in_row_order-each, documents-in_row_order}
use Rattle.row_cells.specs.SetLaws.{sorted_distinct}
use Rattle.downsample_fold.specs.JoinedFitLaws.{AllFit-cells}
use Rattle.downsample_fold.specs.FoldLaws.{folds_compose, folds_in_order, folds_at_starts, folds_count_all}
use Rattle.stream_catalog.specs.Plain.{PlainIndex}
use Rattle.stream_catalog.specs.Ways.{shown_by, see_index}
use Rattle.stream_catalog.specs.Sound.{raw_form, IsWithin, AreRaw, Meets, AreFolds, AreRows, IsIndexSound}
use Rattle.row_cells.specs.KeyedRows.{IsRowOf}
use Rattle.stream_catalog.proofs.BucketLemmas.{meets_of, down_times}
use Rattle.downsample_fold.specs.KeepLaws.{folds_are_rows}
use Rattle.downsample_fold.specs.SettleLaws.{folds_any_form}
use Rattle.row_cells.specs.PlaceLaws.{in_order-distinct}
use Rattle.row_cells.specs.Limits.{most_documents}

pub some_ms : (by : Interval) → 0 < ms_of by
some_ms by = by.in_range.0

-- ---- rows of an index, in either form

pub fits_of : (schema : Schema) (rows : List Row) → Each (IsRowOf schema) rows → AllFit schema rows
fits_of schema rows each = Each-weaker (IsRowOf schema) (Fits schema) (λ row r. r.fits) rows each

have_cells : (schema : Schema) (rows : List Row) → Each (IsRowOf schema) rows → HaveCells schema rows
have_cells schema rows each = AllFit-cells schema rows (fits_of schema rows each)

-- rows of documents or folds
abbrev pub AreEither : Schema → List Row → Type 0
AreEither schema rows = Each (IsRowOf (raw_form schema)) rows ⊎ Each (IsRowOf (folded_form schema)) rows

pub either_of : (interval : Option Interval) (schema : Schema) (start end : ℤ) (rows : List Row) → AreRows interval schema start end rows → AreEither schema rows
either_of None schema start end rows are = inl are.each
either_of (Some by) schema start end rows are = elim are [ inl raw ↦ inl raw.each | inr folds ↦ inr folds.each ]

pub either_cells : (schema : Schema) (rows : List Row) → AreEither schema rows → HaveCells schema rows
either_cells schema rows either = elim either [ inl raw ↦ have_cells (raw_form schema) rows raw | inr folded ↦ have_cells (folded_form schema) rows folded ]

-- a schema in another form has its fields still
mapped_form : (schema : Schema) (folded : Bool) → IsMapped schema → IsMapped (record schema { folded = folded })
mapped_form schema folded mapped = record { ascending = mapped.ascending; paths = mapped.paths; routing = mapped.routing }

-- the fold of rows in either form
pub down_rows : (schema : Schema) (rows : List Row) (n : ℕ) → IsMapped schema → 0 < n → AreEither schema rows → documents rows ≤ most_documents → Each (IsRowOf (folded_form schema)) (down schema rows n)
down_rows schema rows n mapped some either few =
    elim either [
      | inl raw ↦ subst (Each (IsRowOf (folded_form schema))) (folds_any_form schema false rows n) (folds_are_rows (raw_form schema) rows n (mapped_form schema false mapped) some raw few)
      | inr folded ↦ subst (Each (IsRowOf (folded_form schema))) (folds_any_form schema true rows n) (folds_are_rows (folded_form schema) rows n (mapped_form schema true mapped) some folded few)
    ]

-- ---- where their buckets are

buckets_meet : (schema : Schema) (start end : ℤ) (by : Interval) (rows : List Row) → AreRaw schema start end rows ⊎ AreFolds schema start end (ms_of by) rows →
    Each (λ row. Meets (ms_of by) start end (bucket_start (ms_of by) row.time)) rows
buckets_meet schema start end by rows are = elim are [
  | inl raw ↦ Each-both (IsRowOf (raw_form schema)) (λ row. IsWithin start end row.time) (λ row. Meets (ms_of by) start end (bucket_start (ms_of by) row.time))
      (λ row r within. meets_of (ms_of by) start end row.time (some_ms by) r.fits.instant within) rows raw.each raw.within
  | inr folds ↦ folds.meet
]

pub folds_meet : (schema : Schema) (start end : ℤ) (by : Interval) (rows : List Row) → AreRaw schema start end rows ⊎ AreFolds schema start end (ms_of by) rows →
    Each (λ row. Meets (ms_of by) start end (bucket_start (ms_of by) row.time)) (down schema rows (ms_of by))
folds_meet schema start end by rows are =
    down_times (λ t. Meets (ms_of by) start end (bucket_start (ms_of by) t)) schema rows (ms_of by)
    (Each-weaker (λ row. Meets (ms_of by) start end (bucket_start (ms_of by) row.time)) (λ row. Meets (ms_of by) start end (bucket_start (ms_of by) (bucket_start (ms_of by) row.time)))
    (λ row meets. subst (Meets (ms_of by) start end) (sym (bucket_start-bucket_start (ms_of by) row.time (some_ms by))) meets)
    rows (buckets_meet schema start end by rows are))

-- ---- what is shown

pub shown_again : (interval : Option Interval) (schema : Schema) (rows : List Row) → HaveCells schema rows → shown_by interval schema (shown_by interval schema rows) ≡ shown_by interval schema rows
shown_again None schema rows cells = in_row_order-same (in_row_order rows) (in_row_order-ascends rows)
shown_again (Some by) schema rows cells =
    sym (folds_any_form schema true (down schema rows (ms_of by)) (ms_of by)) ∙ folds_compose schema rows (ms_of by) (ms_of by) cells (some_ms by) (some_ms by) (mod_self (ms_of by))

shown_rows : (interval : Option Interval) (schema : Schema) (start end : ℤ) (rows : List Row) → IsMapped schema → AreRows interval schema start end rows → documents rows ≤ most_documents →
    AreRows interval schema start end (shown_by interval schema rows)
shown_rows None schema start end rows mapped are few = record {
  each = in_row_order-each (IsRowOf (raw_form schema)) rows are.each;
  within = in_row_order-each (λ row. IsWithin start end row.time) rows are.within;
}
shown_rows (Some by) schema start end rows mapped are few =
    let either = either_of (Some by) schema start end rows are in
    inr (record {
      by = ms_of by;
      some = some_ms by;
      divides = mod_self (ms_of by);
      each = down_rows schema rows (ms_of by) mapped (some_ms by) either few;
      starts = folds_at_starts schema rows (ms_of by) (either_cells schema rows either) (some_ms by);
      meet = folds_meet schema start end by rows are;
    })

shown_distinct : (interval : Option Interval) (schema : Schema) (rows : List Row) → HaveCells schema rows → AreDistinct rows → AreDistinct (shown_by interval schema rows)
shown_distinct None schema rows cells distinct = in_order-distinct (in_row_order rows) (sorted_distinct rows distinct)
shown_distinct (Some by) schema rows cells distinct = in_order-distinct (down schema rows (ms_of by)) (folds_in_order schema rows (ms_of by) cells (some_ms by))

shown_documents : (interval : Option Interval) (schema : Schema) (rows : List Row) → HaveCells schema rows → documents (shown_by interval schema rows) ≡ documents rows
shown_documents None schema rows cells = documents-in_row_order rows
shown_documents (Some by) schema rows cells = folds_count_all schema rows (ms_of by) cells (some_ms by)

pub shown_in_order : (interval : Option Interval) (schema : Schema) (rows : List Row) → HaveCells schema rows → AreDistinct rows → AreInRowOrder (shown_by interval schema rows)
shown_in_order None schema rows cells distinct = sorted_distinct rows distinct
shown_in_order (Some by) schema rows cells distinct = folds_in_order schema rows (ms_of by) cells (some_ms by)

-- ---- indices

pub cells_of : (i : PlainIndex) → IsIndexSound i → HaveCells i.facts.mapping.schema i.rows
cells_of i sound =
    either_cells i.facts.mapping.schema i.rows (either_of i.facts.interval i.facts.mapping.schema i.facts.start i.facts.end i.rows sound.rows)

pub index_again : (i : PlainIndex) → IsIndexSound i → see_index (see_index i) ≡ see_index i
index_again i sound = ap (λ rows. record i { rows = rows }) (shown_again i.facts.interval i.facts.mapping.schema i.rows (cells_of i sound))

pub index_sound : (i : PlainIndex) → IsMapped i.facts.mapping.schema → IsIndexSound i → IsIndexSound (see_index i)
index_sound i mapped sound = record {
  rows = shown_rows i.facts.interval i.facts.mapping.schema i.facts.start i.facts.end i.rows mapped sound.rows sound.few;
  distinct = shown_distinct i.facts.interval i.facts.mapping.schema i.rows (cells_of i sound) sound.distinct;
  few = subst (λ k. k ≤ most_documents) (sym (shown_documents i.facts.interval i.facts.mapping.schema i.rows (cells_of i sound))) sound.few;
}
