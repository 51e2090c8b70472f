-- The field at a place.
use Rattle.std.specs.Prelude.{◌≡◌, ◌<◌, ℕ, zero, suc, List, [], ◌∷◌, length}
use Rattle.std.proofs.Common.{arith, get_or}
use Rattle.row_cells.specs.declared.schemas.Field.{Field}
use Rattle.row_cells.specs.declared.schemas.Role.TheVariants.{Gauge}
use Rattle.index_segment.specs.Looks.{IsGaugeAt}

pub gauge_at : (fields : List Field) (place : ℕ) (f : Field) → place < length fields → (get_or fields place f).role ≡ Gauge → IsGaugeAt fields place
gauge_at [] place f inside role = omega (arith, inside)
gauge_at (g ∷ gs) zero f inside role = role
gauge_at (g ∷ gs) (suc place) f inside role = gauge_at gs place f (omega (arith, inside)) role
