-- Which values of a list stand there before, by a greatest of those before.
use Rattle.std.specs.Prelude.{◌≡◌, List, [], Bool, true, false, Option, Some, None, if◌then◌else◌}
use Rattle.std.specs.List.{list_any}
use Rattle.std.specs.Ordering.{is_eq, is_gt, is_lt}
use Rattle.row_cells.specs.declared.scalars.Scalar.{Scalar}
use Rattle.row_cells.specs.Each.{Each}
use Rattle.search_filter.specs.Values.{value_cmp}

-- some value of a list is this one
abbrev pub has_value : List Scalar → Scalar → Bool
has_value vs v = list_any (λ w. is_eq (value_cmp w v)) vs

-- a greatest of values, which is one of them; there is none of no values
abbrev pub IsTop : Option Scalar → List Scalar → Type 0
IsTop None vs = vs ≡ []
IsTop (Some t) vs = Each (λ v. is_gt (value_cmp v t) ≡ false) vs × (has_value vs t ≡ true)

-- the greater of a value and a greatest one
abbrev pub greater_of : Option Scalar → Scalar → Scalar
greater_of None v = v
greater_of (Some t) v = if is_lt (value_cmp t v) then v else t
