-- Leaves by their fields, in memory; for private clauses.
use Rattle.std.specs.Prelude.{◌≡◌, ◌⊎◌, ℕ, suc, zero, Bool, true, false, List, [], ◌∷◌, ◌++◌, map, bytes_eq, Option, Some, None}
use Rattle.std.specs.Borrow.{Bor}
use Rattle.row_cells.specs.declared.schemas.FieldType.{FieldType}
use Rattle.row_cells.specs.declared.schemas.Role.{Role}
use Rattle.row_cells.specs.declared.schemas.Role.TheVariants.{Time, Dimension, Gauge, Counter, Label}
use Rattle.row_cells.specs.declared.schemas.Field.{Field}
use Rattle.row_cells.specs.declared.rows.Cell.{Cell}
use Rattle.row_cells.specs.Dimensions.{IsBefore}
use Rattle.row_cells.specs.Fitting.{CellFits}
use Rattle.serde_json.specs.Data.{Data}
use Rattle.serde_json.specs.View.{view}
use Rattle.serde_json.specs.declared.value.Value.{Value}
use Rattle.json_walk.specs.Leaves.{placed_at}
use Rattle.synthetic_source.specs.Faults.{mapped_fault, stray_fault}
use Rattle.synthetic_source.specs.Places.{found_among}
use Rattle.synthetic_source.specs.Rows.{cell_of}
use Rattle.synthetic_source.specs.declared.errors.DocKind.{DocKind}
use Rattle.synthetic_source.specs.declared.gathering.Slot.{Slot}
use Rattle.synthetic_source.specs.declared.typing.Stray.{Stray}
use Rattle.synthetic_source.specs.declared.reading.Read.{Read}
use Rattle.synthetic_source.specs.declared.reading.Read.TheVariants.{Fault, Good}
use Rattle.synthetic_source.specs.declared.reading.Cells.{Cells}
use Rattle.synthetic_source.specs.declared.reading.Cells.TheVariants.{FaultAt, All}

abbrev pub paths_of : List Field → List (List ℕ)
paths_of = map (λ f. f.path)

-- the place of the field of this path
abbrev pub place_of : List ℕ → List Field → Option ℕ
place_of p fs = found_among p (paths_of fs)

abbrev pub seen_leaves : List (Bor Value) → List Data
seen_leaves = map (λ v. view v.now)

abbrev pub leaves_from : Option (Bor Value) → List (Bor Value) → List Data
leaves_from None more = []
leaves_from (Some v) more = view v.now ∷ seen_leaves more

abbrev pub slot_leaves : Slot → List Data
slot_leaves s = leaves_from s.first s.more.items

-- the leaves of each field
abbrev pub by_field : List Field → List (List ℕ × Data) → List (List Data)
by_field fs es = map (λ f. placed_at f.path es) fs

abbrev pub add_if : Bool → List Data → Data → List Data
add_if true ls d = ls ++ d ∷ []
add_if false ls d = ls

-- one leaf more, at the field of its path
abbrev pub with_leaf : List Field → List ℕ → Data → List (List Data) → List (List Data)
with_leaf (f ∷ fs) p d (ls ∷ lss) = add_if (bytes_eq p f.path) ls d ∷ with_leaf fs p d lss
with_leaf fs p d lss = lss

abbrev pub leaves_after : List Field → List (List Data) → List (List ℕ × Data) → List (List Data)
leaves_after fs lss [] = lss
leaves_after fs lss (e ∷ es) = leaves_after fs (with_leaf fs e.0 e.1 lss) es

abbrev pub paths_in : List (Bor (List ℕ)) → List (List ℕ)
paths_in = map (λ p. p.now)

abbrev pub with_stray : Option ℕ → List ℕ → List (List ℕ) → List (List ℕ)
with_stray None p ps = p ∷ ps
with_stray (Some at) p ps = ps

-- the paths of leaves where no field is
abbrev pub strays_of : List Field → List (List ℕ × Data) → List (List ℕ)
strays_of fs [] = []
strays_of fs (e ∷ es) = with_stray (place_of e.0 fs) e.0 (strays_of fs es)

abbrev pub AllSound : Bool → List Field → List (List ℕ) → Type 0
AllSound strict fields [] = Unit {0}
AllSound strict fields (p ∷ ps) = (stray_fault strict fields p ≡ None) × AllSound strict fields ps

-- a path before this one has no fault
abbrev pub NoneBefore : Bool → List Field → List ℕ → List (List ℕ) → Type 0
NoneBefore strict fields q [] = Unit {0}
NoneBefore strict fields q (p ∷ ps) = (IsBefore p q → stray_fault strict fields p ≡ None) × NoneBefore strict fields q ps

abbrev pub IsAmong : List ℕ → List (List ℕ) → Type 0
IsAmong q [] = ⊥
IsAmong q (p ∷ ps) = (p ≡ q) ⊎ IsAmong q ps

-- the least of the paths that have a fault
abbrev pub IsLeastStray : Bool → List Field → List (List ℕ) → Option Stray → Type 0
IsLeastStray strict fields paths None = AllSound strict fields paths
IsLeastStray strict fields paths (Some s) = (stray_fault strict fields s.path.now ≡ Some s.kind) × IsAmong s.path.now paths × NoneBefore strict fields s.path.now paths

-- the fault at a path, where it has one
abbrev pub IsStrayAt : Bool → List Field → List ℕ → Option Stray → Type 0
IsStrayAt strict fields p None = stray_fault strict fields p ≡ None
IsStrayAt strict fields p (Some s) = (stray_fault strict fields p ≡ Some s.kind) × (s.path.now ≡ p)

-- the leaves of a time are an instant, or there are none
abbrev pub IsTimed : FieldType → Role → List Data → Type 0
IsTimed kind Time leaves = mapped_fault kind Time leaves ≡ None
IsTimed kind Dimension leaves = Unit {0}
IsTimed kind Gauge leaves = Unit {0}
IsTimed kind Counter leaves = Unit {0}
IsTimed kind Label leaves = Unit {0}

abbrev pub AreTimed : List Field → List (List Data) → Type 0
AreTimed [] lss = Unit {0}
AreTimed (f ∷ fs) [] = Unit {0}
AreTimed (f ∷ fs) (ls ∷ lss) = IsTimed f.kind f.role ls × AreTimed fs lss

-- what leaves are at a field: a fault, or a cell that fits it
abbrev pub IsReadAs : FieldType → Role → List Data → Read → Type 0
IsReadAs kind role leaves (Fault k) = mapped_fault kind role leaves ≡ Some k
IsReadAs kind role leaves (Good cell) = (mapped_fault kind role leaves ≡ None) × (cell ≡ cell_of kind role leaves) × CellFits false true kind role 1 cell

-- no field has a fault, and these are the cells
abbrev pub AreRead : List Field → List (List Data) → List Cell → Type 0
AreRead [] [] [] = Unit {0}
AreRead (f ∷ fs) (ls ∷ lss) (c ∷ cs) = ((mapped_fault f.kind f.role ls ≡ None) × (c ≡ cell_of f.kind f.role ls) × CellFits false true f.kind f.role 1 c) × AreRead fs lss cs
AreRead fs lss cs = ⊥

-- the field at this place is the first that has a fault
abbrev pub IsFaultyAt : ℕ → DocKind → List Field → List (List Data) → Type 0
IsFaultyAt zero k (f ∷ fs) (ls ∷ lss) = mapped_fault f.kind f.role ls ≡ Some k
IsFaultyAt (suc n) k (f ∷ fs) (ls ∷ lss) = (mapped_fault f.kind f.role ls ≡ None) × IsFaultyAt n k fs lss
IsFaultyAt n k fs lss = ⊥

abbrev pub AreReadAs : List Field → List (List Data) → Cells → Type 0
AreReadAs fs lss (FaultAt n k) = IsFaultyAt n k fs lss
AreReadAs fs lss (All cells) = AreRead fs lss cells
