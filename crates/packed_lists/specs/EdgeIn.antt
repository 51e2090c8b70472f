-- An edge within an unpacked block.
use Rattle.std.specs.Prelude.{ℕ, ℤ, pos, ◌<ℤ◌, ◌≤ℤ◌, ◌+◌, ◌-◌, ◌*◌, ◌<◌, ◌≤◌, max, min, slice_index_or}
use Rattle.packed_lists.specs.declared.cursor.Cache.{Cache}

pub record IsEdgeIn (c : Cache) (from to place : ℕ) (bound : ℤ) : Type 0 where
  pub low : max from (128 * c.block) ≤ place
  pub high : place ≤ min to (128 * c.block + 128)
  pub before : max from (128 * c.block) < place → bound ≤ℤ slice_index_or c.buffer (place - 1 - 128 * c.block) (pos 0)
  pub behind : place < min to (128 * c.block + 128) → slice_index_or c.buffer (place - 128 * c.block) (pos 0) <ℤ bound
