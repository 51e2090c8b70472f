-- How many shards an index may have, and how many rows wait in a write buffer.
use Rattle.std.specs.Prelude.{ℕ}

abbrev pub most_shards : ℕ
most_shards = 64

-- rows of a write buffer
abbrev pub longest_buffer : ℕ
longest_buffer = 4096
