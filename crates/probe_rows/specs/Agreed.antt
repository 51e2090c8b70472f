-- Fields of two schemas that are compared one by one.
use Rattle.std.specs.Prelude.{◌≡◌, List}
use Rattle.row_cells.specs.declared.schemas.Field.{Field}
use Rattle.row_cells.specs.Each.{Each}

-- of these fields one of another's path is that one
abbrev pub AgreesWith : List Field → Field → Type 0
AgreesWith others field = Each (λ other. field.path ≡ other.path → field ≡ other) others

-- so it is with each of the first list
abbrev pub AreAgreed : List Field → List Field → Type 0
AreAgreed second first = Each (AgreesWith second) first
