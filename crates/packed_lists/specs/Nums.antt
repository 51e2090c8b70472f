-- Lists of whole numbers in blocks of 128, the last one shorter.
use Rattle.std.specs.Prelude.{◌≡◌, ℕ, ℤ, List, [], ◌∷◌, ◌++◌, take, drop}
use Rattle.std.specs.List.{concat}
use Rattle.column_pack.specs.Block.{IsBlock}

-- a block for each 128 of the values in turn
abbrev pub AreBlocksOf : List (List ℕ) → List ℤ → Type 0
AreBlocksOf [] vs = vs ≡ []
AreBlocksOf (block ∷ blocks) vs = IsBlock (take 128 vs) block × AreBlocksOf blocks (drop 128 vs)

-- the bytes are the blocks of the values, one behind the other
abbrev pub IsNums : List ℤ → List ℕ → Type 0
IsNums vs bytes = (blocks : List (List ℕ)) × AreBlocksOf blocks vs × (bytes ≡ concat blocks)

-- the same for several lists, one behind the other
abbrev pub AreNums : List (List ℤ) → List ℕ → Type 0
AreNums [] bytes = bytes ≡ []
AreNums (vs ∷ lists) bytes = (nums rest : List ℕ) × IsNums vs nums × AreNums lists rest × (bytes ≡ nums ++ rest)
