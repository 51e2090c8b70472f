-- The limits that requests are told of, beside those of catalogues.
use Rattle.std.specs.Prelude.{ℕ}

-- moves in one request
abbrev pub most_moves : ℕ
most_moves = 1_000

-- buckets in one reply, at all levels
abbrev pub most_buckets : ℕ
most_buckets = 65_536

-- hits: no page ends behind this one
abbrev pub last_hit : ℕ
last_hit = 10_000
