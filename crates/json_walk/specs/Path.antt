-- Paths through a tree: member names joined by dots.
use Rattle.std.specs.Prelude.{ℕ, List, [], ◌∷◌, ◌++◌, Bool, false, ◌==◌, bytes_eq, if◌then◌else◌, Option, Some, None}
use Rattle.std.specs.List.{list_any}

-- a path from a value: to the value itself, or along a text
pub data Path : Type 0 where
  end : Path
  text : List ℕ → Path

-- what is left of a text behind a name: nothing, or what follows a dot
abbrev pub behind_name : List ℕ → List ℕ → Option Path
behind_name [] [] = Some end
behind_name [] (c ∷ t) = if 46 == c then Some (text t) else None
behind_name (x ∷ s) [] = None
behind_name (x ∷ s) (c ∷ t) = if x == c then behind_name s t else None

-- what is left of a path behind the member of that name
abbrev pub behind : List ℕ → Path → Option Path
behind s end = None
behind s (text t) = behind_name s t

-- where a member of a value stands; None is the place of the document
abbrev pub below : Option (List ℕ) → List ℕ → List ℕ
below None s = s
below (Some q) s = q ++ 46 ∷ s

-- whether one of the stops is here
abbrev pub is_stop : List (List ℕ) → Option (List ℕ) → Bool
is_stop stops None = false
is_stop stops (Some q) = list_any (λ s. bytes_eq s q) stops

-- the path that a place and what is left behind it are parts of
abbrev pub whole : Option (List ℕ) → Path → List ℕ
whole None end = []
whole None (text r) = r
whole (Some q) end = q
whole (Some q) (text r) = q ++ 46 ∷ r
