-- What is decided of a document, in memory; for private clauses.
use Rattle.std.specs.Prelude.{◌≡◌, ◌<◌, Bool, false, List, length, Option, Some, None}
use Rattle.std.specs.List.{slice_index_or}
use Rattle.row_cells.specs.declared.schemas.Field.{Field}
use Rattle.row_cells.specs.declared.schemas.Schema.{Schema}
use Rattle.row_cells.specs.Fitting.{CellsFit}
use Rattle.serde_json.specs.Data.{Data}
use Rattle.synthetic_source.specs.Faults.{HasNoFault, IsCellFault}
use Rattle.synthetic_source.specs.Gathered.{AreReadAs}
use Rattle.synthetic_source.specs.Rows.{cells_of}
use Rattle.synthetic_source.specs.Strays.{seen_stray}
use Rattle.synthetic_source.specs.Times.{IsFirstOf, IsRefusal}
use Rattle.synthetic_source.specs.Walked.{Held}
use Rattle.synthetic_source.specs.declared.reading.Cells.{Cells}
use Rattle.synthetic_source.specs.declared.reading.Cells.TheVariants.{FaultAt, All}
use Rattle.synthetic_source.specs.declared.typing.Stray.{Stray}
use Rattle.synthetic_source.specs.declared.typing.Outcome.{Outcome}
use Rattle.synthetic_source.specs.declared.typing.Outcome.TheVariants.{Row, Fault}

abbrev pub IsWithin : List Field → Cells → Type 0
IsWithin fields (FaultAt n k) = n < length fields
IsWithin fields (All cells) = Unit {0}

abbrev pub IsDecided : List Field → Cells → Option Stray → Outcome → Type 0
IsDecided fields (All cells) None (Row cs) = cs ≡ cells
IsDecided fields (All cells) None (Fault e) = ⊥
IsDecided fields (All cells) (Some s) (Row cs) = ⊥
IsDecided fields (All cells) (Some s) (Fault e) = IsRefusal s.kind s.path.now e
IsDecided fields (FaultAt n k) stray (Row cs) = ⊥
IsDecided fields (FaultAt n k) stray (Fault e) = (d : Field) → IsFirstOf k (slice_index_or fields n d).path stray e

abbrev pub IsOutcome : Schema → Bool → Data → Outcome → Type 0
IsOutcome schema strict d (Row cells) = HasNoFault schema strict d × (cells ≡ cells_of schema d) × CellsFit false schema.rises 1 schema.fields cells
IsOutcome schema strict d (Fault e) = IsCellFault schema strict d e

-- what is decided of the leaves that a walk holds
pub record IsSettled (fields : List Field) (h : Held) (o : Outcome) : Type 0 where
  pub cells : Cells
  pub stray : Option Stray
  pub least : seen_stray stray ≡ h.least
  pub read : AreReadAs fields h.slots cells
  pub decided : IsDecided fields cells stray o
