use Rattle.std.specs.Prelude.{◌≡◌, ℕ, ◌*◌, ◌<◌, ◌⊎◌, List, All}
use Prim.Native.Nat.{◌∣◌}
use Rattle.column_pack.specs.Digits.{greatest_of}

-- the greatest factor of some numbers: it divides each, and each common divisor divides it. It is 1 where all are 0
pub record IsGreatestFactor (factor : ℕ) (xs : List ℕ) : Type 0 where
  pub positive : 0 < factor
  pub divides : All (λ x. factor ∣ x) xs
  pub greatest : 0 < greatest_of xs → (c : ℕ) → All (λ x. c ∣ x) xs → c ∣ factor
  pub one : greatest_of xs ≡ 0 → factor ≡ 1

-- a greatest common divisor, 0 where all are 0, also of the multiples of the numbers
pub record IsDivisor (divisor : ℕ) (xs : List ℕ) : Type 0 where
  pub divides : All (λ x. divisor ∣ x) xs
  pub greatest : (times c : ℕ) → All (λ x. c ∣ times * x) xs → c ∣ times * divisor

-- the same of two numbers
pub record IsGcdOf (a b divisor : ℕ) : Type 0 where
  pub first : divisor ∣ a
  pub second : divisor ∣ b
  pub greatest : (times c : ℕ) → c ∣ times * a → c ∣ times * b → c ∣ times * divisor

-- what a factor is where the residuals have a greatest common divisor
abbrev pub IsFactorBy : ℕ → ℕ → Type 0
IsFactorBy factor divisor = ((divisor ≡ 0) × (factor ≡ 1)) ⊎ ((divisor ≡ 1) × (0 < factor))
