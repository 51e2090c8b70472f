-- Moments, in milliseconds since 1970.
use Rattle.std.specs.Prelude.{◌≡◌, ℤ, pos, ◌≤ℤ◌, List, [], ◌∷◌, Option, Some}
use Rattle.edge_face.specs.Limits.{last_instant}

-- from the first instant to the last
abbrev pub IsMoment : ℤ → Type 0
IsMoment moment = (pos 0 ≤ℤ moment) × (moment ≤ℤ last_instant)

-- the first of the moments to come, which is then gone; 0 where none is to come
abbrev pub GivesMoment : List ℤ → ℤ → Option (List ℤ) → Type 0
GivesMoment [] moment left = (moment ≡ pos 0) × (left ≡ Some [])
GivesMoment (first ∷ others) moment left = (moment ≡ first) × (left ≡ Some others)
