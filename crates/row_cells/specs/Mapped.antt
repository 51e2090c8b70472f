-- Schemas as templates give them, and which cells make a key.
use Rattle.std.specs.Prelude.{◌≡◌, ℕ, zero, suc, ◌<◌, ◌≤◌, ◌||◌, Bool, true, false, List, [], ◌∷◌, length, Option, Some, None, IsUtf8}
use Rattle.std.specs.List.{slice_get}
use Rattle.row_cells.specs.declared.schemas.Role.{Role}
use Rattle.row_cells.specs.declared.schemas.Role.TheVariants.{Dimension}
use Rattle.row_cells.specs.declared.schemas.Field.{Field}
use Rattle.row_cells.specs.declared.schemas.Schema.{Schema}
use Rattle.row_cells.specs.declared.rows.Cell.{Cell}
use Rattle.row_cells.specs.declared.rows.Cell.TheVariants.{Absent}
use Rattle.row_cells.specs.Dimensions.{key_bytes}
use Rattle.row_cells.specs.Limits.{longest_path, longest_key}
use Rattle.row_cells.specs.Fitting.{CellsFit, FieldsAscend, dimensions_of}

-- a path of 1 to 512 bytes of UTF-8
pub record IsPath (path : List ℕ) : Type 0 where
  pub some : 0 < length path
  pub short : length path ≤ longest_path
  pub text : IsUtf8 path

abbrev pub ArePaths : List Field → Type 0
ArePaths [] = Unit {0}
ArePaths (f ∷ fs) = IsPath f.path × ArePaths fs

-- the field at a place has this role
abbrev pub IsRoleAt : Role → List Field → ℕ → Type 0
IsRoleAt role [] place = ⊥
IsRoleAt role (f ∷ fs) zero = f.role ≡ role
IsRoleAt role (f ∷ fs) (suc place) = IsRoleAt role fs place

abbrev pub IsDimensionAt : List Field → ℕ → Type 0
IsDimensionAt fields place = IsRoleAt Dimension fields place

abbrev pub AreDimensionsAt : List Field → List ℕ → Type 0
AreDimensionsAt fields [] = Unit {0}
AreDimensionsAt fields (place ∷ places) = IsDimensionAt fields place × AreDimensionsAt fields places

-- places from the least on, which ascend strictly and are below the count
abbrev pub PlacesAscendFrom : ℕ → ℕ → List ℕ → Type 0
PlacesAscendFrom least count [] = Unit {0}
PlacesAscendFrom least count (place ∷ places) = (least ≤ place) × (place < count) × PlacesAscendFrom (suc place) count places

-- places of so many fields, which ascend strictly
abbrev pub PlacesAscend : ℕ → List ℕ → Type 0
PlacesAscend count places = PlacesAscendFrom 0 count places

-- a schema as a template gives it: its fields ascend by path, and its routing fields are dimensions
pub record IsMapped (schema : Schema) : Type 0 where
  pub ascending : FieldsAscend schema.fields
  pub paths : ArePaths schema.fields
  pub routing : AreDimensionsAt schema.fields schema.routing

-- the cells fit the schema, as those of some number of documents
pub record AreCellsOf (schema : Schema) (cells : List Cell) : Type 0 where
  pub documents : ℕ
  pub fit : CellsFit schema.folded schema.rises documents schema.fields cells

abbrev pub is_present : Option Cell → Bool
is_present None = false
is_present (Some Absent) = false
is_present (Some cell) = true

-- some cell at one of the places is present
abbrev pub any_present : List ℕ → List Cell → Bool
any_present [] cells = false
any_present (place ∷ places) cells = is_present (slice_get cells place) || any_present places cells

-- some routing field is present
abbrev pub is_routed : Schema → List Cell → Bool
is_routed schema cells = any_present schema.routing cells

-- the bytes of the dimensions that are present, in path order
abbrev pub series_bytes : Schema → List Cell → List ℕ
series_bytes schema cells = key_bytes (dimensions_of schema.fields cells)

-- the cells have a key: a routing field is present, and the bytes are few enough
pub record HaveKey (schema : Schema) (cells : List Cell) : Type 0 where
  pub routed : is_routed schema cells ≡ true
  pub short : length (series_bytes schema cells) ≤ longest_key
