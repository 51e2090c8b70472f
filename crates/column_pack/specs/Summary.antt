use Rattle.std.specs.Prelude.{◌≡◌, ℤ, pos, ◌+ℤ◌, ◌≤ℤ◌, List, [], ◌∷◌, length, All, Contains}
use Rattle.column_pack.specs.declared.summary.Summary.{Summary}

abbrev pub total_of : List ℤ → ℤ
total_of [] = pos 0
total_of (v ∷ vs) = v +ℤ total_of vs

-- the number of some values, the least and the greatest of them, and their sum
pub record IsSummary (vs : List ℤ) (s : Summary) : Type 0 where
  pub number : s.n ≡ length vs
  pub least : All (λ v. s.min ≤ℤ v) vs
  pub least_among : Contains vs s.min
  pub greatest : All (λ v. v ≤ℤ s.max) vs
  pub greatest_among : Contains vs s.max
  pub total : s.sum ≡ total_of vs
