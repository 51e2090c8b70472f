-- What packed blocks hold, and where they stand.
use Rattle.std.specs.Prelude.{◌≡◌, ℕ, ℤ, List, [], ◌∷◌, ◌++◌, length, take, drop}
use Rattle.std.specs.List.{flat_map}
use Rattle.column_pack.specs.Block.{IsBlock}
use Rattle.column_pack.specs.Decoded.{front_block, block_in, values_of}

-- the values of the blocks that stand in bytes at some places
unfoldable pub values_at : List ℕ → List ℕ → List ℤ
values_at bytes places = flat_map (λ at. values_of (block_in (front_block (drop at bytes)))) places

-- the block of some values stands in bytes at a place
abbrev pub IsBlockAt : List ℕ → ℕ → List ℤ → Type 0
IsBlockAt bytes at vs = (ahead block rest : List ℕ) × IsBlock vs block × (bytes ≡ ahead ++ (block ++ rest)) × (length ahead ≡ at)

-- the blocks of some values stand in bytes at some places
abbrev pub AreBlocksAt : List ℕ → List ℕ → List ℤ → Type 0
AreBlocksAt bytes [] vs = vs ≡ []
AreBlocksAt bytes (at ∷ places) vs = IsBlockAt bytes at (take 128 vs) × AreBlocksAt bytes places (drop 128 vs)

-- the same of several lists
abbrev pub ArePlaced : List ℕ → List (List ℕ) → List (List ℤ) → Type 0
ArePlaced bytes [] [] = Unit {0}
ArePlaced bytes [] (vs ∷ lists) = ⊥
ArePlaced bytes (places ∷ more) [] = ⊥
ArePlaced bytes (places ∷ more) (vs ∷ lists) = AreBlocksAt bytes places vs × ArePlaced bytes more lists
