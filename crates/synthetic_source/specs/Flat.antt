-- Flat documents: objects whose members are single values at fields, in the order of the fields; for private clauses.
use Rattle.std.specs.Prelude.{◌≡◌, ◌⊎◌, ℕ, ℤ, Bool, false, List, [], ◌∷◌, Option, Some, None, string_bytes, String}
use Rattle.std.specs.Borrow.{Bor}
use Rattle.std.specs.declared.alloc.Global.{Global}
use Rattle.row_cells.specs.declared.scalars.Scalar.{Scalar}
use Rattle.row_cells.specs.declared.scalars.Scalar.TheVariants.{Whole, Flag, Word}
use Rattle.row_cells.specs.declared.schemas.Role.{Role}
use Rattle.row_cells.specs.declared.schemas.Role.TheVariants.{Time, Dimension, Gauge, Counter, Label}
use Rattle.row_cells.specs.declared.schemas.Field.{Field}
use Rattle.row_cells.specs.declared.schemas.Schema.{Schema}
use Rattle.row_cells.specs.declared.rows.Cell.{Cell}
use Rattle.row_cells.specs.declared.rows.Cell.TheVariants.{Absent, One, Many}
use Rattle.row_cells.specs.Fitting.{CellsFit, IsValueOf}
use Rattle.serde_json.specs.Data.{Data, Members, no_members, member}
use Rattle.serde_json.specs.View.{view, members_view}
use Rattle.serde_json.specs.declared.value.Value.{Value}
use Rattle.time_text.specs.Instant.{IsInstant}
use Rattle.ts_mapping.specs.Readings.{reading_of}
use Rattle.synthetic_source.specs.Rows.{IsTyped}
use Rattle.synthetic_source.specs.declared.typing.Typed.{Typed}

-- the cell of a field with one leaf, by its reading
abbrev pub value_cell : Role → Scalar → Cell
value_cell Time v = Absent
value_cell Dimension v = One v
value_cell Gauge v = One v
value_cell Counter v = One v
value_cell Label v = Many (v ∷ [])

abbrev pub time_or : Scalar → Option ℤ → Option ℤ
time_or (Whole v) before = Some v
time_or (Flag b) before = before
time_or (Word t) before = before

-- the time so far, with one field more
abbrev pub time_after : Role → Scalar → Option ℤ → Option ℤ
time_after Time v before = time_or v before
time_after Dimension v before = before
time_after Gauge v before = before
time_after Counter v before = before
time_after Label v before = before

-- Each member is the one leaf of a field, in the order of the fields. These are the fields' cells, and the time before them and
-- behind them.
abbrev pub AreFlat : List Field → Members → Option ℤ → Option ℤ → List Cell → Type 0
AreFlat [] no_members before after [] = after ≡ before
AreFlat [] no_members before after (c ∷ cs) = ⊥
AreFlat [] (member k d ms) before after cs = ⊥
AreFlat (f ∷ fs) ms before after [] = ⊥
AreFlat (f ∷ fs) no_members before after (c ∷ cs) = (c ≡ Absent) × AreFlat fs no_members before after cs
AreFlat (f ∷ fs) (member k d ms) before after (c ∷ cs) =
    ((c ≡ Absent) × AreFlat fs (member k d ms) before after cs)
    ⊎ ((v : Scalar) × (k ≡ f.path) × (reading_of f.kind d ≡ Some v) × IsValueOf f.kind v × (c ≡ value_cell f.role v) × AreFlat fs ms (time_after f.role v before) after cs)

-- the members of a walk that is one member ahead
abbrev pub members_ahead : Option (Bor (String Global) × Bor Value) → List (String Global × Value) → Members
members_ahead None behind = no_members
members_ahead (Some m) behind = member (string_bytes m.0.now) (view m.1.now) (members_view behind)

-- the next member is the leaf of a path
abbrev pub IsAhead : List ℕ → Data → Option (Bor (String Global) × Bor Value) → Type 0
IsAhead p d None = ⊥
IsAhead p d (Some m) = (string_bytes m.0.now ≡ p) × (view m.1.now ≡ d)

-- the row of a document without fault, which fits the schema
abbrev pub IsSoundRow : Schema → Bool → Data → Typed → Type 0
IsSoundRow schema strict d typed = IsTyped schema strict d typed × IsInstant typed.time × CellsFit false schema.rises 1 schema.fields typed.cells
