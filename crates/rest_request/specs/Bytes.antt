-- A body that counts as none, told by its bytes; for private clauses.
use Rattle.std.specs.Prelude.{ℕ, ◌==◌, Bool, true, false, ◌&&◌, List, [], ◌∷◌, if◌then◌else◌}
use Rattle.bulk_json.specs.Lines.{is_blank, is_space}

-- what stands behind white space
abbrev pub behind_spaces : List ℕ → List ℕ
behind_spaces [] = []
behind_spaces (b ∷ s) = if is_space b then behind_spaces s else b ∷ s

-- a closing brace, and white space
abbrev pub is_close : List ℕ → Bool
is_close [] = false
is_close (b ∷ s) = (b == 125) && is_blank s

-- nothing, or two braces with white space inside and behind
abbrev pub is_none_or_braces : List ℕ → Bool
is_none_or_braces [] = true
is_none_or_braces (b ∷ s) = (b == 123) && is_close (behind_spaces s)
