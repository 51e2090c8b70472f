-- Runs of rows by their times.
use Rattle.std.specs.Prelude.{ℕ, suc, ℤ, int_lt, if◌then◌else◌, Option, Some, None, List, [], ◌∷◌, length}

-- how many times from the front on are later than a bound, or all
abbrev pub count_later : Option ℤ → List ℤ → ℕ
count_later None times = length times
count_later (Some bound) [] = 0
count_later (Some bound) (time ∷ times) = if int_lt bound time then suc (count_later (Some bound) times) else 0

-- how many times from the front on aren't before a bound, or all
abbrev pub count_since : Option ℤ → List ℤ → ℕ
count_since None times = length times
count_since (Some bound) [] = 0
count_since (Some bound) (time ∷ times) = if int_lt time bound then 0 else suc (count_since (Some bound) times)
