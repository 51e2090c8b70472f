-- The properties of a template's mappings.
use Rattle.std.specs.Prelude.{ℕ, Bool, List, [], ◌∷◌, ◌++◌, codes, bytes_eq, if◌then◌else◌, Option, Some, None, is_some}
use Rattle.serde_json.specs.Data.{Data, null, boolean, number, string, array, object, Members, no_members, member}
use Rattle.serde_json.specs.Find.{get}
use Rattle.json_walk.specs.Path.{below}
use Rattle.ts_mapping.specs.Least.{under}
use Rattle.ts_mapping.specs.Trees.{member_of}

-- a property: its path and its value
pub record Property : Type 0 where
  pub path : List ℕ
  pub value : Data

-- a property as it was sent, with its place in the body
pub record Placed : Type 0 where
  pub place : List ℕ
  pub property : Property

abbrev pub single : List ℕ → List ℕ → Data → List Placed
single place path d = record { place = place; property = record { path = path; value = d } } ∷ []

-- The properties below some place, each before those inside it. The path of a property joins the names that lead to it, so that
-- a dotted name is the same as levels.
abbrev mutual
  pub property_at : List ℕ → List ℕ → Data → List Placed
  property_at place path null = single place path null
  property_at place path (boolean b) = single place path (boolean b)
  property_at place path (number n) = single place path (number n)
  property_at place path (string s) = single place path (string s)
  property_at place path (array ds) = single place path (array ds)
  property_at place path (object ms) = single place path (object ms) ++ inside place path ms

  pub inside : List ℕ → List ℕ → Members → List Placed
  inside place path no_members = []
  inside place path (member s d ms) =
      (if bytes_eq s (codes "properties") then listed (under place s) (Some path) d else []) ++ inside place path ms

  pub listed : List ℕ → Option (List ℕ) → Data → List Placed
  listed place here null = []
  listed place here (boolean b) = []
  listed place here (number n) = []
  listed place here (string s) = []
  listed place here (array ds) = []
  listed place here (object ms) = listed_members place here ms

  pub listed_members : List ℕ → Option (List ℕ) → Members → List Placed
  listed_members place here no_members = []
  listed_members place here (member s d ms) = property_at (under place s) (below here s) d ++ listed_members place here ms

abbrev pub properties_in : Option Data → List Placed
properties_in None = []
properties_in (Some d) = listed (codes "template.mappings.properties") None d

abbrev pub mappings_of : Data → Option Data
mappings_of body = member_of (codes "mappings") (get (codes "template") body)

-- the properties of a body
unfoldable pub properties_of : Data → List Placed
properties_of body = properties_in (member_of (codes "properties") (mappings_of body))

-- a property of the first sort: a level that has properties
abbrev pub is_level : Property → Bool
is_level p = is_some (get (codes "properties") p.value)

-- the properties of the second sort, which are fields
abbrev pub leaves_in : List Placed → List Property
leaves_in [] = []
leaves_in (p ∷ ps) = if is_level p.property then leaves_in ps else p.property ∷ leaves_in ps
