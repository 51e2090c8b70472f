-- Bytes that begin with a block.
use Rattle.std.specs.Prelude.{◌≡◌, ℕ, ℤ, List, ◌++◌, length, take}
use Rattle.column_pack.specs.Block.{Block, IsBlock, layout}
use Rattle.column_pack.specs.Parts.{block_with, IsSound}
use Rattle.column_pack.specs.declared.parts.Header.{Header}

-- the block of some values stands in front
abbrev pub BeginsWith : List ℤ → List ℕ → Type 0
BeginsWith vs bytes = (block rest : List ℕ) × IsBlock vs block × (bytes ≡ block ++ rest)

-- the same by the parts of the block
pub record Leads (b : Block) (bytes : List ℕ) : Type 0 where
  pub sound : IsSound b
  pub rest : List ℕ
  pub same : bytes ≡ layout b ++ rest
