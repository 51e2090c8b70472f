-- How deep a page may lie, and by how many values it may be sorted.
use Rattle.std.specs.Prelude.{ℕ}

-- the last hit that a page may have
abbrev pub deepest : ℕ
deepest = 10_000

-- entries of a sort
abbrev pub most_entries : ℕ
most_entries = 3
