-- What calls of a catalogue in memory ask for and answer.
use Rattle.std.specs.Prelude.{◌≡◌, ℕ, true, false, List, Option, None, Some, Result, Ok, Err, if◌then◌else◌}
use Rattle.row_cells.specs.declared.rows.Row.{Row}
use Rattle.row_cells.specs.declared.schemas.Schema.{Schema}
use Rattle.row_cells.specs.KeyedRows.{IsRowOf}
use Rattle.row_cells.specs.RowLists.{has_place}
use Rattle.ts_mapping.specs.declared.templates.Template.{Template}
use Rattle.tsds_index.specs.Spread.{Spread, rows_of}
use Rattle.tsds_index.specs.declared.refusal.PutError.{PutError}
use Rattle.tsds_index.specs.declared.refusal.PutError.TheVariants.{Duplicate, Full, NoMemory}
use Rattle.stream_catalog.specs.declared.answers.PickError.{PickError}
use Rattle.stream_catalog.specs.declared.facts.HeldIndex.{HeldIndex}
use Rattle.stream_catalog.specs.Lists.{index_named, with_found}
use Rattle.stream_catalog.specs.Plain.{PlainCatalog, PlainIndex}
use Rattle.stream_catalog.specs.Puts.{has_time, is_full}

-- there are rows exactly where there is an index: its rows, of its schema
abbrev pub AreItsRows : Option PlainIndex → Option Spread → Type 0
AreItsRows None None = Unit {0}
AreItsRows (Some i) (Some h) = (rows_of h ≡ i.rows) × (h.schema ≡ i.facts.mapping.schema)
AreItsRows i h = ⊥

-- there is a template, and a schema is its own
abbrev pub IsOfTemplate : Schema → Option Template → Type 0
IsOfTemplate schema None = ⊥
IsOfTemplate schema (Some t) = schema ≡ t.schema

-- ---- a row that is put

-- an index takes documents, its window has a row's time, and the row is of its schema
pub record IsFor (row : Row) (facts : HeldIndex) : Type 0 where
  pub takes : facts.blocked ≡ false
  pub within : has_time facts row.time ≡ true
  pub row_of : IsRowOf facts.mapping.schema row

-- there is such an index
abbrev pub HasIndexFor : Row → Option PlainIndex → Type 0
HasIndexFor row None = ⊥
HasIndexFor row (Some i) = IsFor row i.facts

-- why a row isn't put among rows: its series and time have one, or else there is no room
abbrev pub rows_refusal : List Row → Row → Option PutError
rows_refusal rows row = if has_place row.key row.time rows then Some Duplicate else (if is_full rows then Some Full else None)

abbrev pub put_refusal : PlainCatalog → List ℕ → Row → Option PutError
put_refusal c n row = with_found (index_named n c.indices) None (λ i. rows_refusal i.rows row)

-- why a put refused: its refusal, or want of memory, which comes only where nothing else refuses
abbrev pub IsPutCause : Option PutError → PutError → Type 0
IsPutCause refusal Duplicate = refusal ≡ Some Duplicate
IsPutCause refusal Full = refusal ≡ Some Full
IsPutCause refusal NoMemory = refusal ≡ None

-- ---- a member that is picked

-- an index was picked, and has such facts
abbrev pub HasFacts : Result PlainIndex PickError → HeldIndex → Type 0
HasFacts (Ok i) facts = i.facts ≡ facts
HasFacts (Err e) facts = ⊥
