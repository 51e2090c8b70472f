-- What is known of the path that a walk is at, and of its front; for private clauses.
use Rattle.std.specs.Prelude.{◌≡◌, ◌<◌, ◌≤◌, ℕ, Bool, true, false, List, [], ◌∷◌, take, length, Option, Some, None}
use Rattle.std.specs.List.{slice_index_or}
use Rattle.row_cells.specs.declared.schemas.Field.{Field}
use Rattle.ts_mapping.specs.Paths.{is_among}
use Rattle.synthetic_source.specs.Gathered.{paths_of, place_of}
use Rattle.synthetic_source.specs.Walked.{least_step, seen_fault}
use Rattle.synthetic_source.specs.declared.strays.LeastFault.{LeastFault}
use Rattle.synthetic_source.specs.declared.strays.Strays.{Strays}

-- the path of a place, which is a dot and a name for each level
abbrev pub path_at : List ℕ → List ℕ
path_at [] = []
path_at (dot ∷ path) = path

abbrev pub held_path : Option LeastFault → List ℕ
held_path None = []
held_path (Some f) = f.path.items

-- before none of the dots among the first n bytes stands a field's path
abbrev pub IsClear : List Field → List ℕ → ℕ → Type 0
IsClear fields path n = (k : ℕ) → k < n → slice_index_or path k 0 ≡ 46 → is_among (take k path) (paths_of fields) ≡ false

-- the front that a path shares with the least path
pub record SharesFront (path : List ℕ) (s : Strays) : Type 0 where
  pub same : take s.shared path ≡ take s.shared (held_path s.least)
  pub within : s.shared ≤ length path
  pub held : s.shared ≤ length (held_path s.least)

pub record AreFronts (fields : List Field) (path : List ℕ) (s : Strays) : Type 0 where
  pub shares : SharesFront path s
  pub clear : IsClear fields path s.clear
  pub within : s.clear ≤ length path

-- no field is at the path, and telling it once more changes nothing
pub record IsTold (strict : Bool) (fields : List Field) (path : List ℕ) (s : Strays) : Type 0 where
  pub nowhere : place_of path fields ≡ None
  pub settled : least_step strict fields path (seen_fault s.least) ≡ seen_fault s.least

pub record IsKnown (strict : Bool) (fields : List Field) (path : List ℕ) (s : Strays) : Type 0 where
  pub fronts : AreFronts fields path s
  pub told : s.is_told ≡ true → IsTold strict fields path s
