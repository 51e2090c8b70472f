-- The words of the command line.
use Rattle.std.specs.Prelude.{ℕ, List, [], ◌∷◌, Bool, false, codes, bytes_eq}

-- the word `run` alone, after the program's name
abbrev pub is_run : List (List ℕ) → Bool
is_run [] = false
is_run (name ∷ []) = false
is_run (name ∷ command ∷ []) = bytes_eq command (codes "run")
is_run (name ∷ command ∷ more ∷ words) = false
