-- Places in lists of texts that ascend; for private clauses.
use Rattle.std.specs.Prelude.{ℕ, suc, List, [], ◌∷◌, Bool, true, false, Option, Some, None, Result}
use Rattle.std.specs.declared.result.Result.TheVariants.{Ok, Err}
use Rattle.std.specs.Cmp.Lexicographic.{slice_cmp}
use Rattle.std.specs.Ordering.{nat_cmp, match_ordering}
use Rattle.row_cells.specs.Dimensions.{IsBefore}

-- texts that ascend strictly, all of them after one
abbrev pub RiseAfter : List ℕ → List (List ℕ) → Type 0
RiseAfter p [] = Unit {0}
RiseAfter p (q ∷ qs) = IsBefore p q × RiseAfter q qs

abbrev pub Rise : List (List ℕ) → Type 0
Rise [] = Unit {0}
Rise (p ∷ ps) = RiseAfter p ps

-- where a text stands, or would stand
pub record Place : Type 0 where
  pub at : ℕ
  pub found : Bool

abbrev pub later_place : Place → Place
later_place p = record { at = suc p.at; found = p.found }

abbrev pub place_among : List ℕ → List (List ℕ) → Place
place_among s [] = record { at = 0; found = false }
place_among s (p ∷ ps) = match_ordering (slice_cmp nat_cmp s p) (record { at = 0; found = false }) (record { at = 0; found = true }) (later_place (place_among s ps))

abbrev pub seen_place : Result ℕ ℕ → Place
seen_place (Ok at) = record { at = at; found = true }
seen_place (Err at) = record { at = at; found = false }

abbrev pub found_if : Bool → ℕ → Option ℕ
found_if true at = Some at
found_if false at = None

-- the place of a text that is there
abbrev pub found_among : List ℕ → List (List ℕ) → Option ℕ
found_among s ps = found_if (place_among s ps).found (place_among s ps).at
