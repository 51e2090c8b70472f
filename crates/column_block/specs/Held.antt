-- What a column keeps beside its bytes.
use Rattle.std.specs.Prelude.{◌≡◌, ℕ, ℤ, ◌<◌, ◌^◌, List, length, Option}
use Rattle.column_block.specs.declared.kinds.Values.TheVariants.{Whole}
use Rattle.packed_lists.specs.Decoded.{AreBlocksAt}
use Rattle.column_block.specs.Presence.{present, AreCounts}
use Rattle.column_block.specs.Spelling.{Spells}

pub record IsWhole (rows : ℕ) (bytes places counts : List ℕ) (vs : List (Option ℤ)) : Type 0 where
  pub length_is : length vs ≡ rows
  pub few : rows < 2 ^ 32
  pub spelled : Spells (Whole vs) bytes
  pub placed : AreBlocksAt bytes places (present vs)
  pub counted : AreCounts rows bytes counts
