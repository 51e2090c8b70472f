use Rattle.std.specs.Prelude.{◌≡◌, ℕ, ◌≤◌, List, sum, All, Contains}
use Rattle.column_pack.specs.declared.summary.Span.{Span}

-- the least, the greatest and the sum of some places
pub record IsSpan (ps : List ℕ) (s : Span) : Type 0 where
  pub below : All (λ p. s.least ≤ p) ps
  pub least_among : Contains ps s.least
  pub above : All (λ p. p ≤ s.greatest) ps
  pub greatest_among : Contains ps s.greatest
  pub whole : s.total ≡ sum ps
