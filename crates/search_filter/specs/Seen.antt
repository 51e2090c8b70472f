-- Values, trees and ends in memory as what they are.
use Rattle.std.specs.Prelude.{Bool, List, [], ◌∷◌, Option, Some, None, option_map}
use denote.Bor.{Bor}
use Rattle.serde_json.specs.Data.{Data}
use Rattle.serde_json.specs.View.{view}
use Rattle.serde_json.specs.declared.value.Value.{Value}
use Rattle.row_cells.specs.declared.scalars.Scalar.{Scalar}
use Rattle.row_cells.specs.declared.scalars.Scalar.TheVariants.{Whole}
use Rattle.row_cells.specs.declared.rows.Cell.{Cell}
use Rattle.search_filter.specs.Values.{values_of}
use Rattle.search_filter.specs.declared.ranges.End.{End}
use Rattle.search_filter.specs.declared.values.Held.{Held}
use Rattle.search_filter.specs.declared.values.Held.TheVariants.{Nothing, Number, One, Many}

-- the values that are lent
abbrev pub seen : Held → List Scalar
seen Nothing = []
seen (Number v) = Whole v ∷ []
seen (One v) = v.now ∷ []
seen (Many vs) = vs.now

abbrev pub cell_seen : Option (Bor Cell) → List Scalar
cell_seen None = []
cell_seen (Some cell) = values_of cell.now

-- a value that may be absent
abbrev pub data_seen : Option (Bor Value) → Option Data
data_seen value = option_map (λ v. view v.now) value

-- an end as it is sent
abbrev pub end_seen : End → Data × Bool
end_seen e = (view e.value.now, e.inclusive)
