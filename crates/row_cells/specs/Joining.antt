-- The fields of two schemas together.
use Rattle.std.specs.Prelude.{◌≡◌, ◌+◌, ◌<◌, ◌⊎◌, List, [], ◌∷◌, length}
use Rattle.std.specs.Cmp.Lexicographic.{slice_cmp}
use Rattle.std.specs.Ordering.{nat_cmp}
use Rattle.std.specs.declared.cmp.Ordering.{Ordering}
use Rattle.std.specs.declared.cmp.Ordering.TheVariants.{Less, Equal, Greater}
use Rattle.row_cells.specs.declared.schemas.Field.{Field}
use Rattle.row_cells.specs.declared.schemas.Schema.{Schema}
use Rattle.row_cells.specs.Fitting.{FieldsAscend}

-- a field is one of a list
abbrev pub IsIn : Field → List Field → Type 0
IsIn f [] = ⊥
IsIn f (g ∷ gs) = (f ≡ g) ⊎ IsIn f gs

-- each field of one list is in the other
abbrev pub AllIn : List Field → List Field → Type 0
AllIn fs gs = (f : Field) → IsIn f fs → IsIn f gs

-- fields of one path are one field: two lists agree in type and role
abbrev pub FieldsAgree : List Field → List Field → Type 0
FieldsAgree fs gs = (f g : Field) → IsIn f fs → IsIn g gs → f.path ≡ g.path → f ≡ g

abbrev pub by_order : Ordering → List Field → List Field → List Field → List Field
by_order Less before same after = before
by_order Equal before same after = same
by_order Greater before same after = after

-- a field put in its place by path, where no field has this path yet
abbrev pub insert_field : Field → List Field → List Field
insert_field f [] = f ∷ []
insert_field f (g ∷ gs) = by_order (slice_cmp nat_cmp f.path g.path) (f ∷ g ∷ gs) (g ∷ gs) (g ∷ insert_field f gs)

-- the fields of both lists by path
abbrev pub join_fields : List Field → List Field → List Field
join_fields [] gs = gs
join_fields (f ∷ fs) gs = insert_field f (join_fields fs gs)

-- a schema of the fields of both, without routing fields and in the form of the first
abbrev pub join_of_schemas : Schema → Schema → Schema
join_of_schemas a b = record a { fields = join_fields a.fields b.fields; routing = [] }

-- the first of the joined fields, and what is left of both lists
pub record Follows (fs gs : List Field) (next : Field) (fs' gs' : List Field) : Type 0 where
  pub joined : join_fields fs gs ≡ next ∷ join_fields fs' gs'
  pub first_ascends : FieldsAscend fs'
  pub second_ascends : FieldsAscend gs'
  pub shorter : length fs' + length gs' < length fs + length gs
