-- What a split query answers.
use Rattle.std.specs.Prelude.{◌≡◌, ◌&&◌, Some}
use Rattle.row_cells.specs.declared.rows.Row.{Row}
use Rattle.row_cells.specs.declared.schemas.Schema.{Schema}
use Rattle.row_cells.specs.Heads.{IsHeadOf}
use Rattle.row_cells.specs.Mapped.{IsMapped}
use Rattle.time_text.specs.Instant.{IsInstant}
use Rattle.search_filter.specs.Forms.{FitsFields}
use Rattle.search_filter.specs.Matching.{matches_row}
use Rattle.search_filter.specs.Splitting.{is_between, split_of}
use Rattle.search_filter.specs.declared.query.Query.{Query}
use Rattle.search_filter.specs.declared.splits.Split.{Split}

-- a query that splits takes the rows in the range that the rest takes
abbrev pub SplitsMatch : Type 0
SplitsMatch = (schema : Schema) (query : Query) (split : Split) (row : Row) → split_of schema query ≡ Some split → IsInstant row.time →
    matches_row query schema row ≡ (is_between split.from split.to row.time && matches_row split.rest schema row)

-- the rest takes all rows of a key or none, be they documents or folds, with rises or without
abbrev pub RestByKey : Type 0
RestByKey = (schema : Schema) (query : Query) (split : Split) (row other : Row) → split_of schema query ≡ Some split → IsMapped schema →
    FitsFields schema row → FitsFields schema other → row.key ≡ other.key → matches_row split.rest schema row ≡ matches_row split.rest schema other

-- and takes the head of a key exactly where it takes the key's rows
abbrev pub RestByHead : Type 0
RestByHead = (schema : Schema) (query : Query) (split : Split) (row head : Row) → split_of schema query ≡ Some split → IsMapped schema →
    FitsFields schema row → IsHeadOf schema row head → matches_row split.rest schema row ≡ matches_row split.rest schema head
