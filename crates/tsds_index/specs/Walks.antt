-- Walks over the series of an index.
use Rattle.std.specs.Prelude.{ℕ, List}
use Rattle.tsds_index.specs.Spread.{Spread}

-- an index, and the keys of its series that are ahead
pub record Walk : Type 0 where
  pub index : Spread
  pub ahead : List (List ℕ)
