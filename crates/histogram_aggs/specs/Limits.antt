-- How large an answer may be.
use Rattle.std.specs.Prelude.{ℕ}

-- buckets of an answer, at all levels together
abbrev pub most_buckets : ℕ
most_buckets = 65_536
