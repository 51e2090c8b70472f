-- Fields by the names at their level, one field put in after another; for private clauses.
use Rattle.std.specs.Prelude.{ℕ, List, [], ◌∷◌, ◌++◌, map, Option, Some, None, ◌==◌, if◌then◌else◌}
use Rattle.std.specs.Cmp.Lexicographic.{slice_cmp}
use Rattle.std.specs.Ordering.{nat_cmp, match_ordering}
use Rattle.serde_json.specs.Data.{Data, Members, no_members, member}
use Rattle.synthetic_source.specs.Levels.{Shown, names_of, value_at, under, value_or, levels}

-- a name, the value of the field that has it as its path, and the fields below it
pub record Named : Type 0 where
  pub name : List ℕ
  pub value : Option Data
  pub below : List Shown

-- a path at its level: its first name, and what follows the dot behind it
pub record Split : Type 0 where
  pub name : List ℕ
  pub rest : Option (List ℕ)

abbrev pub with_first : ℕ → Split → Split
with_first c p = record { name = c ∷ p.name; rest = p.rest }

abbrev pub split : List ℕ → Split
split [] = record { name = []; rest = None }
split (c ∷ t) = if 46 == c then record { name = []; rest = Some t } else with_first c (split t)

abbrev pub first_of : Option Data → Data → Option Data
first_of None d = Some d
first_of (Some e) d = Some e

-- the group with one field more
abbrev pub joined : Option (List ℕ) → Data → Named → Named
joined None d g = record { name = g.name; value = first_of g.value d; below = g.below }
joined (Some r) d g = record { name = g.name; value = g.value; below = g.below ++ record { path = r; value = d } ∷ [] }

abbrev pub empty_group : List ℕ → Named
empty_group s = record { name = s; value = None; below = [] }

-- the field goes to the group of its name, or makes one, in byte order of the names
abbrev pub put_in : Split → Data → List Named → List Named
put_in p d [] = joined p.rest d (empty_group p.name) ∷ []
put_in p d (g ∷ gs) = match_ordering (slice_cmp nat_cmp p.name g.name) (joined p.rest d (empty_group p.name) ∷ g ∷ gs) (joined p.rest d g ∷ gs) (g ∷ put_in p d gs)

abbrev pub groups_after : List Named → List Shown → List Named
groups_after gs [] = gs
groups_after gs (e ∷ es) = groups_after (put_in (split e.path) e.value gs) es

-- the groups of all fields of a level
abbrev pub group_at : List Shown → List ℕ → Named
group_at es s = record { name = s; value = value_at s es; below = under s es }

abbrev pub groups_in : List Shown → List Named
groups_in es = map (group_at es) (names_of es)

-- a member for each group
abbrev pub named_members : List Named → Members
named_members [] = no_members
named_members (g ∷ gs) = member g.name (value_or g.value (levels g.below)) (named_members gs)
