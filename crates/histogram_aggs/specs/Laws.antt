-- What holds of aggregations, and of lists of samples that are alike.
use Rattle.std.specs.Prelude.{◌≡◌, ℕ, ℤ, ◌%◌, ◌<◌, ◌⊎◌, Bool, true, List, [], ◌∷◌, ◌++◌, filter, flat_map, length, map, Some}
use Rattle.std.specs.List.{slice_get}
use Rattle.std.specs.Str.{bytes_eq}
use Rattle.time_text.specs.Bucket.{bucket_start}
use Rattle.row_cells.specs.declared.schemas.Role.TheVariants.{Counter}
use Rattle.row_cells.specs.declared.schemas.Field.{Field}
use Rattle.row_cells.specs.declared.schemas.Schema.{Schema}
use Rattle.row_cells.specs.declared.rows.Row.{Row}
use Rattle.row_cells.specs.Each.{Each}
use Rattle.row_cells.specs.RowLists.{in_row_order}
use Rattle.row_cells.specs.Widening.{widen_cells}
use Rattle.downsample_fold.specs.Conditions.{HaveCells}
use Rattle.downsample_fold.specs.Direct.{down}
use Rattle.row_cells.specs.Mapped.{IsRoleAt}
use Rattle.histogram_aggs.specs.Alike.{Choice, Head, Keeps, IsOfHead, pick, Alike, AreSeriesWise}
use Rattle.histogram_aggs.specs.Answers.{agg_all}
use Rattle.histogram_aggs.specs.Asks.{Asks}
use Rattle.histogram_aggs.specs.Metrics.{of_window}
use Rattle.histogram_aggs.specs.Samples.{Sample, rows_in, at_window}
use Rattle.histogram_aggs.specs.Sets.{Among}

-- aggregations by series and whole buckets answer lists that are alike with the same
abbrev pub AggsAlike : Type 0
AggsAlike = (asks : Asks) (fields : List Field) (n : ℕ) (head : Head) (keeps : Keeps) (xs ys : List Sample) → 0 < n → AreSeriesWise n keeps fields asks → Alike n fields head keeps xs ys → agg_all asks fields xs ≡ agg_all asks fields ys

-- the rows of an index are alike their fold, where the schema rises if an increase is asked for
abbrev pub AlikeDown : Type 0
AlikeDown = (schema : Schema) (rows : List Row) (n : ℕ) (head : Head) (keeps : Keeps) (start : ℤ) → 0 < n → HaveCells schema rows → Each (IsOfHead schema.fields head) (at_window start rows) →
    ((place : ℕ) → IsRoleAt Counter schema.fields place → keeps place ≡ true → schema.rises ≡ true) →
    Alike n schema.fields head keeps (at_window start (down schema rows n)) (at_window start rows)

-- lists of rows that are sorted alike are alike
abbrev pub AlikeInOrder : Type 0
AlikeInOrder = (n : ℕ) (fields : List Field) (head : Head) (keeps : Keeps) (start : ℤ) (xs ys : List Row) →
    Each (IsOfHead fields head) (at_window start xs) → Each (IsOfHead fields head) (at_window start ys) → in_row_order xs ≡ in_row_order ys →
    Alike n fields head keeps (at_window start xs) (at_window start ys)

-- the parts of lists that are alike which a test of series, windows and buckets takes are alike
abbrev pub AlikeChosen : Type 0
AlikeChosen = (n : ℕ) (fields : List Field) (head : Head) (keeps : Keeps) (xs ys : List Sample) (chosen : Choice) → Alike n fields head keeps xs ys →
    Alike n fields head keeps (pick n chosen xs) (pick n chosen ys)

-- the samples that a test takes have nothing in a window
abbrev pub IsWithout : ℕ → List ℕ → ℤ → List Sample → Type 0
IsWithout n key start xs = (c : Choice) → of_window key start (pick n c xs) ≡ []

-- of each series and window one side has nothing
abbrev pub AreApart : ℕ → List Sample → List Sample → List Sample → List Sample → Type 0
AreApart n xs ys us vs = (key : List ℕ) (start : ℤ) → (IsWithout n key start xs × IsWithout n key start ys) ⊎ (IsWithout n key start us × IsWithout n key start vs)

-- lists that are alike, joined, where those of one index aren't told apart by an increase
abbrev pub AlikeAppend : Type 0
AlikeAppend = (n : ℕ) (fields : List Field) (head : Head) (keeps : Keeps) (xs ys us vs : List Sample) → ((place : ℕ) → keeps place ≡ true → AreApart n xs ys us vs) →
    Alike n fields head keeps xs ys → Alike n fields head keeps us vs → Alike n fields head keeps (xs ++ us) (ys ++ vs)

-- what is alike by buckets of m is alike by those of a multiple
abbrev pub AlikeWider : Type 0
AlikeWider = (m n : ℕ) (fields : List Field) (head : Head) (keeps : Keeps) (xs ys : List Sample) → 0 < m → 0 < n → n % m ≡ 0 → Alike m fields head keeps xs ys → Alike n fields head keeps xs ys

-- a sample beside the fields of a wider schema
abbrev pub wide_row : List Field → List Field → Row → Row
wide_row fs ts row = record row { cells = widen_cells fs row.cells ts }

abbrev pub wide : List Field → List Field → Sample → Sample
wide fs ts s = record s { row = wide_row fs ts s.row }

-- the narrow fields of one path have one role, and a metric that is kept beside the wide fields is kept beside the narrow ones
pub record Widens (fs ts : List Field) (keeps wide_keeps : Keeps) : Type 0 where
  pub roles : (t : Field) → Among t ts → Each (λ f. bytes_eq t.path f.path ≡ true → f.role ≡ t.role) fs
  pub kept : (t f : Field) (at place : ℕ) → slice_get ts at ≡ Some t → slice_get fs place ≡ Some f → bytes_eq t.path f.path ≡ true → wide_keeps at ≡ true → keeps place ≡ true

-- lists that are alike are alike beside the fields of a wider schema
abbrev pub AlikeWiden : Type 0
AlikeWiden = (n : ℕ) (fs ts : List Field) (head wide_head : Head) (keeps wide_keeps : Keeps) (xs ys : List Sample) → Widens fs ts keeps wide_keeps →
    Each (λ row. length row.cells ≡ length fs) (rows_in xs) → Each (λ row. length row.cells ≡ length fs) (rows_in ys) →
    Each (IsOfHead ts wide_head) (map (wide fs ts) xs) → Each (IsOfHead ts wide_head) (map (wide fs ts) ys) →
    Alike n fs head keeps xs ys → Alike n ts wide_head wide_keeps (map (wide fs ts) xs) (map (wide fs ts) ys)

-- ---- several indices, each shown folded or as it came

-- what is offered of one index, in two ways
pub record TwoWays : Type 0 where
  pub one : List Sample
  pub other : List Sample

abbrev pub all_ones : List TwoWays → List Sample
all_ones ws = flat_map (λ w. w.one) ws

abbrev pub all_others : List TwoWays → List Sample
all_others ws = flat_map (λ w. w.other) ws

-- no series and window of one index is in a later one
abbrev pub AllApart : ℕ → List TwoWays → Type 0
AllApart n [] = Unit {0}
AllApart n (w ∷ ws) = AreApart n w.one w.other (all_ones ws) (all_others ws) × AllApart n ws

-- over several indices, each of which is alike in two ways, aggregations by series and whole buckets answer the same in both
abbrev pub IndicesAgree : Type 0
IndicesAgree = (asks : Asks) (n : ℕ) (fields : List Field) (head : Head) (keeps : Keeps) (ws : List TwoWays) → 0 < n → AllApart n ws → Each (λ w. Alike n fields head keeps w.one w.other) ws → AreSeriesWise n keeps fields asks →
    agg_all asks fields (all_ones ws) ≡ agg_all asks fields (all_others ws)

-- a test of samples asks for series and buckets of m alone
abbrev pub AsksBySeries : ℕ → (Sample → Bool) → Choice → List Sample → Type 0
AsksBySeries m test c xs = Each (λ s. test s ≡ c s.row.key s.start (bucket_start m s.row.time)) xs

-- the rows that a test by series and whole buckets takes of a fold, and of the rows themselves, are alike
abbrev pub QueriedAlike : Type 0
QueriedAlike = (schema : Schema) (rows : List Row) (m : ℕ) (head : Head) (keeps : Keeps) (start : ℤ) (test : Sample → Bool) (c : Choice) → 0 < m → HaveCells schema rows → Each (IsOfHead schema.fields head) (at_window start rows) →
    ((place : ℕ) → IsRoleAt Counter schema.fields place → keeps place ≡ true → schema.rises ≡ true) →
    AsksBySeries m test c (at_window start (down schema rows m)) → AsksBySeries m test c (at_window start rows) →
    Alike m schema.fields head keeps (filter test (at_window start (down schema rows m))) (filter test (at_window start rows))
