-- How many rounds a lifecycle may have.
use Rattle.std.specs.Prelude.{ℕ}

abbrev pub most_rounds : ℕ
most_rounds = 10
