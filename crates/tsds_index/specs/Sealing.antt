-- Which lists of a shard become one when a full buffer is sealed, and where a row is put.
use Rattle.std.specs.Prelude.{ℕ, suc, ◌+◌, ◌-◌, ◌*◌, nat_le, nat_lt, Bool, if◌then◌else◌, List, [], ◌∷◌, ◌++◌, length, take, drop, reverse, slice_index_or, slice_set}
use Rattle.row_cells.specs.declared.rows.Row.{Row}
use Rattle.row_cells.specs.RowLists.{in_row_order, insert_row}
use Rattle.tsds_index.specs.Limits.{longest_buffer}
use Rattle.tsds_index.specs.Sound.{shard_for}
use Rattle.tsds_index.specs.Spread.{Part, Spread, newest_first, no_part}

-- a list is joined to what is newer where it has fewer than twice as many rows
abbrev pub is_joined : ℕ → ℕ → Bool
is_joined older newer = nat_lt older (2 * newer)

-- how many lists, the newest first, are joined one after the other to so many rows
abbrev pub joined_count : ℕ → List (List Row) → ℕ
joined_count rows [] = 0
joined_count rows (list ∷ lists) = if is_joined (length list) rows then suc (joined_count (rows + length list) lists) else 0

-- one list in the place of the buffer and of the lists from a number on
abbrev pub sealed_at : ℕ → Part → Part
sealed_at n p = record { sealed = take n p.sealed ++ in_row_order (p.buffer ++ newest_first (drop n p.sealed)) ∷ []; buffer = [] }

-- a shard with room in its buffer: a full one is sealed, and joined with the newest lists
abbrev pub with_room : Part → Part
with_room p = if nat_le longest_buffer (length p.buffer) then sealed_at (length p.sealed - joined_count longest_buffer (reverse p.sealed)) p else p

-- a row put into the buffer
abbrev pub with_row : Row → Part → Part
with_row row p = record (with_room p) { buffer = insert_row row (with_room p).buffer }

-- so in the shard of a number
abbrev pub put_at : ℕ → Row → List Part → List Part
put_at shard row ps = slice_set ps shard (with_row row (slice_index_or ps shard no_part))

-- the shards of an index, with a row put into that of its series
abbrev pub parts_with : Row → Spread → List Part
parts_with row h = put_at (shard_for h.schema (length h.parts) row.key) row h.parts
