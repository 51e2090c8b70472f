-- Numbers that fall.
use Rattle.std.specs.Prelude.{ℕ, ℤ, pos, ◌<ℤ◌, ◌≤ℤ◌, ◌+◌, ◌-◌, ◌*◌, ◌<◌, ◌≤◌, List, slice_index_or}

-- the numbers from one place up to another fall
abbrev pub Fall : List ℤ → ℕ → ℕ → Type 0
Fall vs from to = (i j : ℕ) → from ≤ i → i < j → j < to → slice_index_or vs j (pos 0) <ℤ slice_index_or vs i (pos 0)

-- a place between two others, with a number before it that isn't below the bound and one at it that is
pub record IsEdge (vs : List ℤ) (from to place : ℕ) (bound : ℤ) : Type 0 where
  pub low : from ≤ place
  pub high : place ≤ to
  pub before : from < place → bound ≤ℤ slice_index_or vs (place - 1) (pos 0)
  pub behind : place < to → slice_index_or vs place (pos 0) <ℤ bound

-- the same of blocks, by the first number of each
pub record IsBlockEdge (vs : List ℤ) (first last block : ℕ) (bound : ℤ) : Type 0 where
  pub low : first ≤ block
  pub high : block ≤ last
  pub before : first < block → bound ≤ℤ slice_index_or vs (128 * block) (pos 0)
  pub behind : block < last → slice_index_or vs (128 * (block + 1)) (pos 0) <ℤ bound
