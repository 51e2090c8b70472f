-- On which side of the paths below another a path stands; for private clauses.
use Rattle.std.specs.Prelude.{ℕ, List, [], ◌∷◌, nat_lt, if◌then◌else◌}
use Rattle.std.specs.declared.cmp.Ordering.{Ordering}
use Rattle.std.specs.declared.cmp.Ordering.TheVariants.{Less, Equal, Greater}

abbrev pub side_by : ℕ → ℕ → Ordering → Ordering
side_by b c later = if nat_lt b c then Less else (if nat_lt c b then Greater else later)

-- before all that begin with the other and a dot, one of these, or behind them all
abbrev pub side : List ℕ → List ℕ → Ordering
side [] p = Less
side (b ∷ x) [] = side_by b 46 Equal
side (b ∷ x) (c ∷ p) = side_by b c (side x p)
