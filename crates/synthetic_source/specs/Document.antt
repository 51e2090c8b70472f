-- What a document is by the fields of a schema: a row, or one fault.
use Rattle.std.specs.Prelude.{◌≡◌, ℕ, ℤ, pos, Bool, List, [], ◌∷◌, Option, Some, None, Result, unwrap_or}
use Rattle.std.specs.declared.result.Result.TheVariants.{Ok, Err}
use Rattle.row_cells.specs.declared.rows.Cell.{Cell}
use Rattle.row_cells.specs.declared.schemas.Schema.{Schema}
use Rattle.serde_json.specs.Data.{Data}
use Rattle.json_walk.specs.Listed.{listed}
use Rattle.json_walk.specs.Paths.{with_paths}
use Rattle.ts_mapping.specs.Paths.{timestamp}
use Rattle.synthetic_source.specs.Faults.{fault_at, stops_of, time_fault, time_of}
use Rattle.synthetic_source.specs.Rows.{cells_of}
use Rattle.synthetic_source.specs.declared.errors.DocKind.{DocKind}
use Rattle.synthetic_source.specs.declared.errors.DocError.{DocError}
use Rattle.synthetic_source.specs.declared.errors.DocError.TheVariants.{Refused, NoMemory}
use Rattle.synthetic_source.specs.declared.typing.Typed.{Typed}

-- the paths with leaves, ascending by bytes and each once
abbrev pub leaf_paths : List (List ℕ) → Data → List (List ℕ)
leaf_paths stops d = with_paths [] (listed stops None d)

abbrev pub or_next : Option DocKind → List ℕ → Option (DocKind × List ℕ) → Option (DocKind × List ℕ)
or_next None p next = next
or_next (Some kind) p next = Some (kind, p)

-- the first of some paths that has a fault
abbrev pub first_fault : Schema → Bool → Data → List (List ℕ) → Option (DocKind × List ℕ)
first_fault schema strict d [] = None
first_fault schema strict d (p ∷ ps) = or_next (fault_at schema strict d p) p (first_fault schema strict d ps)

abbrev pub cells_unless : Option (DocKind × List ℕ) → List Cell → Result (List Cell) (DocKind × List ℕ)
cells_unless None cells = Ok cells
cells_unless (Some fault) cells = Err fault

-- the cells of a document, or the fault at the first path that has one; of the time nothing is said
unfoldable pub document_cells : Schema → Bool → Data → Result (List Cell) (DocKind × List ℕ)
document_cells schema strict d = cells_unless (first_fault schema strict d (leaf_paths (stops_of schema.fields) d)) (cells_of schema d)

abbrev pub row_with : ℤ → Result (List Cell) (DocKind × List ℕ) → Result Typed (DocKind × List ℕ)
row_with time (Ok cells) = Ok (record { time = time; cells = cells })
row_with time (Err fault) = Err fault

abbrev pub timed_document : Option DocKind → Option ℤ → Result (List Cell) (DocKind × List ℕ) → Result Typed (DocKind × List ℕ)
timed_document (Some kind) time cells = Err (kind, timestamp)
timed_document None time cells = row_with (unwrap_or time (pos 0)) cells

-- the row of a document, or its fault: its time's, and else that of its cells
unfoldable pub document_of : Schema → Bool → Data → Result Typed (DocKind × List ℕ)
document_of schema strict d = timed_document (time_fault d) (time_of d) (document_cells schema strict d)

-- what is told is the fault, or want of memory
abbrev pub IsFaultOf : {A : Type 0} → Result A (DocKind × List ℕ) → DocError → Type 0
IsFaultOf document (Refused kind path) = document ≡ Err (kind, path)
IsFaultOf document NoMemory = Unit {0}
