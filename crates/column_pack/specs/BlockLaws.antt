-- What holds of every block.
use Rattle.std.specs.Prelude.{◌≡◌, ℕ, ℤ, ◌+◌, ◌*◌, ◌<◌, ◌≤◌, ◌++◌, List, length, slice_index, All, FitsSigned}
use Rattle.std.specs.Int.{w64}
use Rattle.column_pack.specs.Block.{IsBlock}
use Rattle.column_pack.specs.Decoded.{front_block, block_in, values_of}
use Rattle.column_pack.specs.Digits.{bytes_for}
use Rattle.column_pack.specs.Laws.Decodes.{front-block, values-again}
use Rattle.column_pack.specs.Laws.OneBlock.{one-block}
use Rattle.column_pack.specs.Laws.OneList.{one-list, block-count, length-before, block-some, block-few}

-- a list has one block
pub one_block : (vs : List ℤ) (a b : List ℕ) → IsBlock vs a → IsBlock vs b → a ≡ b
one_block = one-block

-- bytes are the block of one list
pub one_list : (vs ws : List ℤ) (bytes : List ℕ) → IsBlock vs bytes → IsBlock ws bytes → vs ≡ ws
one_list = one-list

-- a block has 1 to 128 values of 64 bits
pub block_some : (vs : List ℤ) (block : List ℕ) → IsBlock vs block → 0 < length vs
block_some = block-some

pub block_few : (vs : List ℤ) (block : List ℕ) → IsBlock vs block → length vs ≤ 128
block_few = block-few

pub block_signed : (vs : List ℤ) (block : List ℕ) → IsBlock vs block → All (FitsSigned w64) vs
block_signed vs block (b, h, e) = h.signed

-- the first byte says how many values there are
pub block_count : (vs : List ℤ) (block : List ℕ) → IsBlock vs block → slice_index block 0 ≡ length vs
block_count = block-count

-- bytes that begin with a block tell its length
pub block_length : (vs : List ℤ) (block rest : List ℕ) → IsBlock vs block → 27 + bytes_for (slice_index (block ++ rest) 0 * slice_index (block ++ rest) 26) ≡ length block
block_length = length-before

-- bytes that begin with a block tell the block, and a block its values
pub front_is : (vs : List ℤ) (block rest : List ℕ) → IsBlock vs block → front_block (block ++ rest) ≡ block
front_is = front-block

pub values_are : (vs : List ℤ) (block : List ℕ) → IsBlock vs block → values_of (block_in block) ≡ vs
values_are = values-again
