-- The values of a label in order.
use Rattle.std.specs.Prelude.{List, [], ◌∷◌}
use Rattle.std.specs.Cmp.Lexicographic.{slice_cmp}
use Rattle.std.specs.Ordering.{nat_cmp, int_cmp, bool_cmp, match_ordering}
use Rattle.std.specs.declared.cmp.Ordering.{Ordering}
use Rattle.std.specs.declared.cmp.Ordering.TheVariants.{Less, Greater}
use Rattle.row_cells.specs.declared.scalars.Scalar.{Scalar}
use Rattle.row_cells.specs.declared.scalars.Scalar.TheVariants.{Whole, Flag, Word}

-- numbers by size, false before true, texts in byte order; a label has values of one sort alone
abbrev pub scalar_cmp : Scalar → Scalar → Ordering
scalar_cmp (Whole a) (Whole b) = int_cmp a b
scalar_cmp (Whole a) (Flag b) = Less
scalar_cmp (Whole a) (Word b) = Less
scalar_cmp (Flag a) (Whole b) = Greater
scalar_cmp (Flag a) (Flag b) = bool_cmp a b
scalar_cmp (Flag a) (Word b) = Less
scalar_cmp (Word a) (Whole b) = Greater
scalar_cmp (Word a) (Flag b) = Greater
scalar_cmp (Word a) (Word b) = slice_cmp nat_cmp a b

-- a text stands once, other values as often as they were sent
abbrev pub again : Scalar → List Scalar → List Scalar
again (Whole a) vs = Whole a ∷ vs
again (Flag a) vs = Flag a ∷ vs
again (Word a) vs = vs

-- the values in order, with one more
abbrev pub with_value : Scalar → List Scalar → List Scalar
with_value v [] = v ∷ []
with_value v (w ∷ ws) = match_ordering (scalar_cmp v w) (v ∷ w ∷ ws) (again v (w ∷ ws)) (w ∷ with_value v ws)

abbrev pub ordered_after : List Scalar → List Scalar → List Scalar
ordered_after vs [] = vs
ordered_after vs (w ∷ ws) = ordered_after (with_value w vs) ws

-- the values in order
abbrev pub ordered : List Scalar → List Scalar
ordered vs = ordered_after [] vs
