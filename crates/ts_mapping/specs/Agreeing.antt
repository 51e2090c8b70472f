-- Whether two lists of fields agree in types and roles.
use Rattle.std.specs.Prelude.{ℕ, Bool, false, ◌==◌, ◌&&◌, not, List, [], ◌∷◌, bytes_eq, if◌then◌else◌, Option, Some, None}
use Rattle.std.specs.Cmp.Lexicographic.{slice_cmp}
use Rattle.std.specs.List.{list_any}
use Rattle.std.specs.Ordering.{nat_cmp, match_ordering}
use Rattle.row_cells.specs.declared.schemas.FieldType.{FieldType}
use Rattle.row_cells.specs.declared.schemas.FieldType.TheVariants.{Date, Keyword, Long, Integer, Short, Byte, Boolean, Aggregate}
use Rattle.row_cells.specs.declared.schemas.Role.{Role}
use Rattle.row_cells.specs.declared.schemas.Role.TheVariants.{Time, Dimension, Gauge, Counter, Label}
use Rattle.row_cells.specs.declared.schemas.Field.{Field}

-- a number for each type and each role, so that two are the same where their numbers are
abbrev pub kind_number : FieldType → ℕ
kind_number Date = 0
kind_number Keyword = 1
kind_number Long = 2
kind_number Integer = 3
kind_number Short = 4
kind_number Byte = 5
kind_number Boolean = 6
kind_number Aggregate = 7

abbrev pub role_number : Role → ℕ
role_number Time = 0
role_number Dimension = 1
role_number Gauge = 2
role_number Counter = 3
role_number Label = 4

abbrev pub is_alike : Field → Field → Bool
is_alike f g = (kind_number f.kind == kind_number g.kind) && (role_number f.role == role_number g.role)

-- a field of this path with another type or role
abbrev pub is_other_field : Field → Field → Bool
is_other_field f g = bytes_eq f.path g.path && not (is_alike f g)

-- the path of the first field that the other list has with another type or role; it is the least one where paths ascend
abbrev pub other_path : List Field → List Field → Option (List ℕ)
other_path [] gs = None
other_path (f ∷ fs) gs = if list_any (is_other_field f) gs then Some f.path else other_path fs gs

-- ---- for private clauses

-- what doesn't stand before a path
abbrev pub from_path : List ℕ → List Field → List Field
from_path p [] = []
from_path p (g ∷ gs) = match_ordering (slice_cmp nat_cmp g.path p) (from_path p gs) (g ∷ gs) (g ∷ gs)

abbrev pub is_other_first : Field → List Field → Bool
is_other_first f [] = false
is_other_first f (g ∷ gs) = is_other_field f g
