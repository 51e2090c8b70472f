-- Paths of fields: names joined by dots.
use Rattle.std.specs.Prelude.{ℕ, Bool, true, false, ◌==◌, ◌&&◌, not, nat_le, List, [], ◌∷◌, length, codes, bytes_eq, if◌then◌else◌}
use Rattle.std.specs.List.{list_any}
use Rattle.std.specs.Str.{is_utf8}
use Rattle.row_cells.specs.Limits.{longest_path}

-- a path is one of a list
abbrev pub is_among : List ℕ → List (List ℕ) → Bool
is_among p ps = list_any (bytes_eq p) ps

-- p lies below q: it begins with q and a dot
abbrev pub is_below : List ℕ → List ℕ → Bool
is_below [] q = false
is_below (b ∷ p) [] = b == 46
is_below (b ∷ p) (c ∷ q) = (b == c) && is_below p q

-- no part between dots is empty; `fresh` tells that a part begins here
abbrev pub has_parts : Bool → List ℕ → Bool
has_parts fresh [] = not fresh
has_parts fresh (b ∷ p) = if b == 46 then not fresh && has_parts true p else has_parts false p

-- names that begin no path, since documents have them by themselves
abbrev pub reserved : List (List ℕ)
reserved = codes "_doc_count" ∷ codes "_id" ∷ codes "_index" ∷ codes "_source" ∷ codes "_tsid" ∷ []

-- the part before the first dot
abbrev pub first_part : List ℕ → List ℕ
first_part [] = []
first_part (b ∷ p) = if b == 46 then [] else b ∷ first_part p

-- bytes as a field's path has them: they aren't too many, no part is empty, and the first isn't reserved
unfoldable pub has_path_form : List ℕ → Bool
has_path_form p = nat_le (length p) longest_path && (has_parts true p && not (is_among (first_part p) reserved))

-- a path that a field may have: a text of this form
unfoldable pub is_field_path : List ℕ → Bool
is_field_path p = is_utf8 p && has_path_form p

-- where documents have their time
abbrev pub timestamp : List ℕ
timestamp = codes "@timestamp"
