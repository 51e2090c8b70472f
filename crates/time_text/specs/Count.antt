-- The numbers of intervals.
use Rattle.std.specs.Prelude.{ℕ, Bool, ◌&&◌, not, ◌==◌, nat_le, unsigned_abs, List, length, slice_index}
use Rattle.edge_face.specs.Limits.{last_instant}

-- the longest interval, in milliseconds: as many as the last instant is behind the first
abbrev pub longest : ℕ
longest = unsigned_abs last_instant

-- one to fifteen digits without a leading zero; of a list of digits
abbrev pub is_count : List ℕ → Bool
is_count digits = nat_le 1 (length digits) && nat_le (length digits) 15 && not (slice_index digits 0 == 48)
