-- What a device tells of its contents, and how a call of it changes that. None: it tells nothing.
use Rattle.std.specs.Prelude.{ℕ, ◌+◌, ◌-◌, ◌^◌, ◌≤◌, List, ◌++◌, Option, min}
use Rattle.std.specs.Option.{option_map}

-- what was given, with these bytes after it
abbrev pub appended : Option (List ℕ) → List ℕ → Option (List ℕ)
appended contents bytes = option_map (λ held. held ++ bytes) contents

-- these bytes, and then what is left
abbrev pub preceded : List ℕ → Option (List ℕ) → Option (List ℕ)
preceded bytes left = option_map (λ rest. bytes ++ rest) left

-- a count of faults rose, or stands where a count of 64 bits ends
abbrev pub Rose : ℕ → ℕ → Type 0
Rose before now = min (before + 1) (2 ^ 64 - 1) ≤ now
