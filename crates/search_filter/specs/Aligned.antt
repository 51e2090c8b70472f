-- Queries by series and whole buckets.
use Rattle.std.specs.Prelude.{◌≡◌, ◌<◌, ℕ, ℤ, Bool, true, false, ◌&&◌, not, List, Option, Some, None}
use Rattle.std.specs.List.{list_all}
use Rattle.std.specs.Ordering.{int_eq}
use Rattle.time_text.specs.Bucket.{bucket_start}
use Rattle.row_cells.specs.Each.{Each}
use Rattle.row_cells.specs.Heads.{head_row_of}
use Rattle.row_cells.specs.Mapped.{IsMapped}
use Rattle.row_cells.specs.declared.rows.Row.{Row}
use Rattle.row_cells.specs.declared.scalars.Scalar.{Scalar}
use Rattle.row_cells.specs.declared.scalars.Scalar.TheVariants.{Whole, Flag, Word}
use Rattle.row_cells.specs.declared.schemas.Field.{Field}
use Rattle.row_cells.specs.declared.schemas.Schema.{Schema}
use Rattle.search_filter.specs.Forms.{FitsFields}
use Rattle.search_filter.specs.Matching.{is_true, matches_row}
use Rattle.search_filter.specs.Splitting.{teller_at}
use Rattle.search_filter.specs.declared.query.Bound.{Bound}
use Rattle.search_filter.specs.declared.query.Query.{Query, Query-F, fold-Query}
use Rattle.search_filter.specs.declared.tellers.Teller.{Teller}
use Rattle.search_filter.specs.declared.tellers.Teller.TheVariants.{Time, Key, Cell}

-- ---- which queries ask for series and whole buckets alone

-- a moment with which a bucket of so many milliseconds begins
abbrev pub is_start : ℕ → Scalar → Bool
is_start n (Whole t) = int_eq (bucket_start n t) t
is_start n (Flag b) = false
is_start n (Word w) = false

-- no lower end, or `gte` of such a moment
abbrev pub begins_bucket : ℕ → Option Bound → Bool
begins_bucket n None = true
begins_bucket n (Some b) = b.inclusive && is_start n b.value

-- no upper end, or `lt` of one
abbrev pub ends_bucket : ℕ → Option Bound → Bool
ends_bucket n None = true
ends_bucket n (Some b) = not b.inclusive && is_start n b.value

-- what keys tell may be asked in any way, the time as it is said, and nothing of what cells alone tell
abbrev pub is_aligned_by : Teller → Bool → Bool
is_aligned_by Time times = times
is_aligned_by Key times = true
is_aligned_by Cell times = false

-- what is asked of a dimension, or of no field
abbrev pub is_keyed_at : List Field → ℕ → Bool
is_keyed_at fields place = is_aligned_by (teller_at fields place) false

-- one level of a query, below which it is known which queries are aligned
abbrev pub align_step : ℕ → List Field → Query-F Bool → Bool
align_step n fields Query-F.All = true
align_step n fields Query-F.Nothing = true
align_step n fields (Query-F.Has places) = list_all (is_keyed_at fields) places
align_step n fields (Query-F.OneOf place values) = is_keyed_at fields place
align_step n fields (Query-F.Between place low high) = is_aligned_by (teller_at fields place) (begins_bucket n low && ends_bucket n high)
align_step n fields (Query-F.Bool must should must_not least) = list_all is_true must && (list_all is_true should && list_all is_true must_not)

-- A query is aligned to buckets of n milliseconds where all that it asks is of dimensions or of no field, and ranges of `@timestamp` by
-- `gte` and `lt` at starts of buckets, wherever in the query these stand.
abbrev pub is_aligned : ℕ → Schema → Query → Bool
is_aligned n schema query = fold-Query Bool (align_step n schema.fields) query

-- ---- what such a query answers

-- the row of a series with a time, which has the series' dimensions and nothing else
abbrev pub row_at : Schema → List ℕ → ℤ → Row
row_at schema key time = record (head_row_of schema key) { time = time }

-- the query takes a series and a bucket, by the bucket's start
abbrev pub takes_bucket : Query → Schema → List ℕ → ℤ → Bool
takes_bucket query schema key start = matches_row query schema (row_at schema key start)

-- an aligned query takes a row exactly where it takes the row's series and bucket
abbrev pub AlignedByBucket : Type 0
AlignedByBucket = (n : ℕ) (schema : Schema) (query : Query) (row : Row) → is_aligned n schema query ≡ true → 0 < n → IsMapped schema → FitsFields schema row →
    matches_row query schema row ≡ takes_bucket query schema row.key (bucket_start n row.time)

-- so it takes all rows of one series and bucket or none of them, be they documents or folds
abbrev pub AlignedAlike : Type 0
AlignedAlike = (n : ℕ) (schema : Schema) (query : Query) (row other : Row) → is_aligned n schema query ≡ true → 0 < n → IsMapped schema → FitsFields schema row → FitsFields schema other →
    row.key ≡ other.key → bucket_start n row.time ≡ bucket_start n other.time → matches_row query schema row ≡ matches_row query schema other

-- and of any rows one test of series and buckets tells which it takes
abbrev pub AlignedByTest : Type 0
AlignedByTest = (n : ℕ) (schema : Schema) (query : Query) (rows : List Row) → is_aligned n schema query ≡ true → 0 < n → IsMapped schema → Each (FitsFields schema) rows →
    Each (λ row. matches_row query schema row ≡ takes_bucket query schema row.key (bucket_start n row.time)) rows
