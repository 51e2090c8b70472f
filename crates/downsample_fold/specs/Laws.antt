-- What holds of the direct fold.
use Rattle.std.specs.Prelude.{◌≡◌, false, ℕ, ◌↔◌, ◌+◌, ◌%◌, ◌<◌, ◌≤◌, Bool, List, [], ◌∷◌, ◌++◌, take, filter, map, flat_map, slice_get, Some}
use Rattle.row_cells.specs.declared.schemas.Schema.{Schema}
use Rattle.row_cells.specs.declared.rows.Row.{Row}
use Rattle.row_cells.specs.Dimensions.{IsBefore}
use Rattle.row_cells.specs.Each.{Each}
use Rattle.row_cells.specs.Fitting.{FieldsAscend, folded_form, dimensions_of}
use Rattle.row_cells.specs.Joining.{AllIn}
use Rattle.row_cells.specs.Widening.{in_form_of, widen_of_row}
use Rattle.row_cells.specs.KeyedRows.{IsRowOf}
use Rattle.row_cells.specs.Limits.{most_documents}
use Rattle.row_cells.specs.Mapped.{IsMapped}
use Rattle.row_cells.specs.Merging.{merge_of_rows}
use Rattle.row_cells.specs.RowLists.{AreInRowOrder, IsAmong, AreDistinct, in_row_order, documents, AllFit}
use Rattle.downsample_fold.specs.Places.{Place, own_place, place_of, same_place, rows_of, keys_of, has_key}
use Rattle.downsample_fold.specs.Conditions.{HaveCells, AllAtStarts}
use Rattle.downsample_fold.specs.Direct.{down, fold_at, fold_in_order}
use Rattle.time_text.specs.Bucket.{bucket_start}

-- the keys of the series that rows have, ascending
abbrev pub series_of : List Row → List (List ℕ)
series_of rows = keys_of (in_row_order rows)

-- each key stands before those behind it in byte order
abbrev pub KeysAscend : List (List ℕ) → Type 0
KeysAscend [] = Unit {0}
KeysAscend (key ∷ keys) = Each (IsBefore key) keys × KeysAscend keys

-- the series of rows ascend
abbrev pub SeriesAscend : Type 0
SeriesAscend = (rows : List Row) → KeysAscend (series_of rows)

-- the rows of the first k series
abbrev pub rows_of_first : ℕ → List Row → List Row
rows_of_first k rows = filter (λ row. has_key (take k (series_of rows)) row.key) rows

-- where m divides n, the fold by n of the fold by m is the fold by n
abbrev pub FoldsCompose : Type 0
FoldsCompose = (schema : Schema) (rows : List Row) (m n : ℕ) → HaveCells schema rows → 0 < m → 0 < n → n % m ≡ 0 →
    down (folded_form schema) (down schema rows m) n ≡ down schema rows n

-- rows that are sorted first fold alike
abbrev pub FoldsSorted : Type 0
FoldsSorted = (schema : Schema) (rows : List Row) (n : ℕ) → down schema (in_row_order rows) n ≡ down schema rows n

-- the order in which rows come doesn't matter: two lists of the same rows fold alike
abbrev pub FoldsAnyOrder : Type 0
FoldsAnyOrder = (schema : Schema) (rows others : List Row) (n : ℕ) → AreDistinct rows → AreDistinct others → ((row : Row) → IsAmong row rows ↔ IsAmong row others) →
    down schema rows n ≡ down schema others n

-- the fold of the rows of some series has the rows of these series in the fold
abbrev pub FoldsSomeSeries : Type 0
FoldsSomeSeries = (schema : Schema) (rows : List Row) (n : ℕ) (chosen : List ℕ → Bool) →
    down schema (filter (λ row. chosen row.key) rows) n ≡ filter (λ row. chosen row.key) (down schema rows n)

-- and likewise of some series and buckets
abbrev pub FoldsSomePlaces : Type 0
FoldsSomePlaces = (schema : Schema) (rows : List Row) (n : ℕ) (chosen : Place → Bool) →
    down schema (filter (λ row. chosen (place_of n row)) rows) n ≡ filter (λ row. chosen (own_place row)) (down schema rows n)

-- a test that is one over the rows of each place and their fold goes inside a fold
abbrev pub FoldsTested : Type 0
FoldsTested = (schema : Schema) (rows : List Row) (n : ℕ) (test : Row → Bool) (chosen : Place → Bool) →
    Each (λ row. test row ≡ chosen (place_of n row)) rows → Each (λ row. test row ≡ chosen (own_place row)) (down schema rows n) →
    down schema (filter test rows) n ≡ filter test (down schema rows n)

-- the fold is the join of the folds of the series
abbrev pub FoldsJoinSeries : Type 0
FoldsJoinSeries = (schema : Schema) (rows : List Row) (n : ℕ) → HaveCells schema rows → 0 < n →
    down schema rows n ≡ flat_map (λ key. down schema (rows_of key rows) n) (series_of rows)

-- and so is that of the first k series
abbrev pub FoldsJoinFirst : Type 0
FoldsJoinFirst = (schema : Schema) (rows : List Row) (n k : ℕ) → HaveCells schema rows → 0 < n →
    down schema (rows_of_first k rows) n ≡ flat_map (λ key. down schema (rows_of key rows) n) (take k (series_of rows))

-- one series more adds its fold at the end
abbrev pub FoldsJoinNext : Type 0
FoldsJoinNext = (schema : Schema) (rows : List Row) (n k : ℕ) (key : List ℕ) → HaveCells schema rows → 0 < n → slice_get (series_of rows) k ≡ Some key →
    down schema (rows_of_first (k + 1) rows) n ≡ down schema (rows_of_first k rows) n ++ down schema (rows_of key rows) n

-- the fold is in row order, with each series and bucket once
abbrev pub FoldsInOrder : Type 0
FoldsInOrder = (schema : Schema) (rows : List Row) (n : ℕ) → HaveCells schema rows → 0 < n → AreInRowOrder (down schema rows n)

-- each row's time is the start of its bucket
abbrev pub FoldsAtStarts : Type 0
FoldsAtStarts = (schema : Schema) (rows : List Row) (n : ℕ) → HaveCells schema rows → 0 < n → AllAtStarts n (down schema rows n)

-- the fold of rows that fit a schema fits its folded form
abbrev pub FoldsFit : Type 0
FoldsFit = (schema : Schema) (rows : List Row) (n : ℕ) → 0 < n → AllFit schema rows → documents rows ≤ most_documents →
    AllFit (folded_form schema) (down schema rows n)

-- no document is lost, and none is counted twice
abbrev pub FoldsCountAll : Type 0
FoldsCountAll = (schema : Schema) (rows : List Row) (n : ℕ) → HaveCells schema rows → 0 < n → documents (down schema rows n) ≡ documents rows

-- a fold of what is folded already stays
abbrev pub FoldsSettle : Type 0
FoldsSettle = (schema : Schema) (rows : List Row) (n : ℕ) → AllFit (folded_form schema) rows → AreInRowOrder rows → AllAtStarts n rows → 0 < n →
    down schema rows n ≡ rows

-- a fold doesn't ask whether the rows were folded before
abbrev pub FoldsAnyForm : Type 0
FoldsAnyForm = (schema : Schema) (folded : Bool) (rows : List Row) (n : ℕ) → down (record schema { folded = folded }) rows n ≡ down schema rows n

-- the series of a fold are those of its rows
abbrev pub FoldsKeepSeries : Type 0
FoldsKeepSeries = (schema : Schema) (rows : List Row) (n : ℕ) → HaveCells schema rows → 0 < n → series_of (down schema rows n) ≡ series_of rows

-- rows in row order are the join of their series
abbrev pub RowsJoinSeries : Type 0
RowsJoinSeries = (rows : List Row) → flat_map (λ key. rows_of key (in_row_order rows)) (series_of rows) ≡ in_row_order rows

-- each key of some rows stands before each of others
abbrev pub SeriesApart : List Row → List Row → Type 0
SeriesApart rows others = Each (λ row. Each (λ other. IsBefore row.key other.key) others) rows

-- the fold of rows whose series stand before those of others, and of the others, is the join of their folds
abbrev pub FoldsJoinApart : Type 0
FoldsJoinApart = (schema : Schema) (rows others : List Row) (n : ℕ) → HaveCells schema rows → HaveCells schema others → SeriesApart rows others → 0 < n →
    down schema (rows ++ others) n ≡ down schema rows n ++ down schema others n

-- no row of one list has the series and bucket of a row of the other
abbrev pub PlacesApart : ℕ → List Row → List Row → Type 0
PlacesApart n rows others = Each (λ row. Each (λ other. same_place (place_of n row) (place_of n other) ≡ false) others) rows

-- the fold of rows that have no place in common with others, and of the others, is their folds put in row order
abbrev pub FoldsJoinPlaces : Type 0
FoldsJoinPlaces = (schema : Schema) (rows others : List Row) (n : ℕ) → HaveCells schema rows → HaveCells schema others → PlacesApart n rows others → 0 < n →
    down schema (rows ++ others) n ≡ in_row_order (down schema rows n ++ down schema others n)

-- folds have the keys of an index, and short lists, so they may stand in one
abbrev pub FoldsAreRows : Type 0
FoldsAreRows = (schema : Schema) (rows : List Row) (n : ℕ) → IsMapped schema → 0 < n → Each (IsRowOf schema) rows → documents rows ≤ most_documents →
    Each (IsRowOf (folded_form schema)) (down schema rows n)

-- a fold has the dimensions of each row of its series
abbrev pub FoldsKeepDimensions : Type 0
FoldsKeepDimensions = (schema : Schema) (rows : List Row) (n : ℕ) → IsMapped schema → 0 < n → AllFit schema rows → documents rows ≤ most_documents →
    (folded row : Row) → IsAmong folded (down schema rows n) → IsAmong row rows → folded.key ≡ row.key → dimensions_of schema.fields folded.cells ≡ dimensions_of schema.fields row.cells

-- the fold of wider rows is the fold beside the wider fields
abbrev pub FoldsWiden : Type 0
FoldsWiden = (narrow wide : Schema) (rows : List Row) (n : ℕ) → FieldsAscend narrow.fields → FieldsAscend wide.fields → AllIn narrow.fields wide.fields → HaveCells narrow rows → 0 < n →
    down (in_form_of narrow wide) (map (λ row. widen_of_row row narrow wide) rows) n ≡ map (λ row. widen_of_row row narrow wide) (down narrow rows n)

-- rows at one place in front of rows at other places: their fold, and then that of the others
abbrev pub BucketInFront : Type 0
BucketInFront = (schema : Schema) (n : ℕ) (place : Place) (first : Row) (bucket others : List Row) →
    place_of n first ≡ place → Each (λ row. place_of n row ≡ place) bucket → Each (λ row. same_place place (place_of n row) ≡ false) others →
    fold_in_order schema ((first ∷ bucket) ++ others) n ≡ fold_at schema place (first ∷ bucket) ∷ fold_in_order schema others n

-- the merge of two rows of one place is their direct fold
abbrev pub MergesAreFolds : Type 0
MergesAreFolds = (schema : Schema) (n : ℕ) (earlier later : Row) → HaveCells schema (later ∷ earlier ∷ []) → place_of n later ≡ place_of n earlier →
    fold_at schema (place_of n earlier) (later ∷ earlier ∷ []) ≡ merge_of_rows schema (record earlier { time = bucket_start n earlier.time }) later
