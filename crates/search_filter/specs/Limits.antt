-- How much a query may name.
use Rattle.std.specs.Prelude.{ℕ}

-- values of `terms`
abbrev pub most_terms : ℕ
most_terms = 65_536
