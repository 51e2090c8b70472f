-- Targets, their paths with segments, and the ids of documents.
use Rattle.std.specs.Prelude.{ℕ, ◌==◌, Bool, not, ◌||◌, ◌&&◌, nat_le, nat_eq, List, [], ◌∷◌, length, if◌then◌else◌, Option, None, Some}
use Rattle.std.specs.Option.{option_map}
use Rattle.std.specs.List.{list_all}
use Rattle.std.specs.Char.{is_ascii_alphanumeric}

abbrev pub before : ℕ → List ℕ × List ℕ → List ℕ × List ℕ
before b parts = (b ∷ parts.0, parts.1)

-- what stands before and after the first such byte, where there is one
abbrev pub cut : ℕ → List ℕ → Option (List ℕ × List ℕ)
cut byte [] = None
cut byte (b ∷ bytes) = if b == byte then Some ([], bytes) else option_map (before b) (cut byte bytes)

-- a target is a path, or a path, `?` and a query
abbrev pub split_target : Option (List ℕ × List ℕ) → List ℕ → List ℕ × List ℕ
split_target None target = (target, [])
split_target (Some parts) target = parts

abbrev pub onto_first : ℕ → List (List ℕ) → List (List ℕ)
onto_first b [] = []
onto_first b (piece ∷ pieces) = (b ∷ piece) ∷ pieces

-- what stands before, between and after all such bytes
abbrev pub split : ℕ → List ℕ → List (List ℕ)
split byte [] = [] ∷ []
split byte (b ∷ bytes) = if b == byte then [] ∷ split byte bytes else onto_first b (split byte bytes)

abbrev pub is_id_byte : ℕ → Bool
is_id_byte b = is_ascii_alphanumeric b || b == 45 || b == 95

-- the most bytes of a document's id
abbrev pub id_limit : ℕ
id_limit = 6_000

-- the id of a document: 1 to 6,000 letters, digits, `-` and `_`
unfoldable pub is_id : List ℕ → Bool
is_id segment = not (nat_eq (length segment) 0) && (nat_le (length segment) id_limit && list_all is_id_byte segment)
