-- How many there may be of everything, and how long the names of folds are.
use Rattle.std.specs.Prelude.{ℕ}

abbrev pub most_templates : ℕ
most_templates = 1_000

abbrev pub most_streams : ℕ
most_streams = 1_000

abbrev pub most_indices : ℕ
most_indices = 10_000

-- bytes of the name that a lifecycle gives a fold
abbrev pub longest_fold_name : ℕ
longest_fold_name = 151
