-- What is known of the indices that a name stands for.
use Rattle.std.specs.Prelude.{◌≡◌, ◌<ℤ◌, ℕ, List, [], ◌∷◌, map, Some}
use Rattle.std.specs.Option.{option_map}
use Rattle.row_cells.specs.Each.{Each}
use Rattle.stream_catalog.specs.Plain.{PlainIndex, PlainCatalog}
use Rattle.stream_catalog.specs.Ways.{see_index, see_catalog}
use Rattle.tsds_service.specs.Machine.{Machine, IsSound}
use Rattle.tsds_service.specs.Questions.{target_of}

-- in what is seen a name stands for what is seen of the same indices
abbrev pub TargetsStay : Type 0
TargetsStay = (c : PlainCatalog) (name : List ℕ) → target_of (see_catalog c) name ≡ option_map (map see_index) (target_of c name)

-- the window of each index begins before those of the ones behind it
abbrev pub StartsAscend : List PlainIndex → Type 0
StartsAscend [] = Unit {0}
StartsAscend (i ∷ is) = Each (λ j. i.facts.start <ℤ j.facts.start) is × StartsAscend is

abbrev pub TargetsAscend : Type 0
TargetsAscend = (m : Machine) (name : List ℕ) (is : List PlainIndex) → IsSound m → target_of m.catalog name ≡ Some is → StartsAscend is
