-- The object that fields with values make, level by level of their names.
use Rattle.std.specs.Prelude.{ℕ, zero, suc, List, [], ◌∷◌, Option, Some, None, ◌==◌, if◌then◌else◌, bytes_eq, length, max}
use Rattle.std.specs.BTreeSet.{insert_key}
use Rattle.std.specs.Cmp.Lexicographic.{slice_cmp}
use Rattle.std.specs.Ordering.{nat_cmp}
use Rattle.json_walk.specs.Path.{Path, end, text, behind_name}
use Rattle.serde_json.specs.Data.{Data, object, Members, no_members, member}

-- a field's path from some level on, and the value that the field shows
pub record Shown : Type 0 where
  pub path : List ℕ
  pub value : Data

-- the name of a path at its level: what stands before its first dot
abbrev pub first_name : List ℕ → List ℕ
first_name [] = []
first_name (c ∷ t) = if 46 == c then [] else c ∷ first_name t

-- the names at the level, in byte order
abbrev pub names_after : List (List ℕ) → List Shown → List (List ℕ)
names_after names [] = names
names_after names (e ∷ es) = names_after (insert_key (slice_cmp nat_cmp) names (first_name e.path)) es

abbrev pub names_of : List Shown → List (List ℕ)
names_of es = names_after [] es

-- the value of the field whose path is this name
abbrev pub value_at : List ℕ → List Shown → Option Data
value_at s [] = None
value_at s (e ∷ es) = if bytes_eq s e.path then Some e.value else value_at s es

abbrev pub with_rest : Option Path → Data → List Shown → List Shown
with_rest (Some (text r)) d es = record { path = r; value = d } ∷ es
with_rest (Some end) d es = es
with_rest None d es = es

-- the fields whose paths begin with this name and a dot, by what follows
abbrev pub under : List ℕ → List Shown → List Shown
under s [] = []
under s (e ∷ es) = with_rest (behind_name s e.path) e.value (under s es)

-- members of these names
abbrev pub members_by : (List ℕ → Data) → List (List ℕ) → Members
members_by f [] = no_members
members_by f (s ∷ ss) = member s (f s) (members_by f ss)

abbrev pub value_or : Option Data → Members → Data
value_or (Some d) ms = d
value_or None ms = object ms

-- The members at a level: one for each name with which some path begins, in byte order of the names. It is the
-- value of the field that has this path, or the object of the next level. No path has more levels than bytes,
-- so their number is bounded by one that is above the length of each.
abbrev pub level : ℕ → List Shown → Members
level zero es = no_members
level (suc n) es = members_by (λ s. value_or (value_at s es) (level n (under s es))) (names_of es)

-- a number above the length of each path
abbrev pub longest : List Shown → ℕ
longest [] = zero
longest (e ∷ es) = max (suc (length e.path)) (longest es)

-- the object of all levels
unfoldable pub levels : List Shown → Members
levels es = level (longest es) es
