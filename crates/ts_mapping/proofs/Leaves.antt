-- The properties of a body that are fields, whatever their places.
use Rattle.std.proofs.Common.{◌≡◌, ℕ, List, [], ◌∷◌, ◌++◌, Bool, true, false, Option, Some, refl, ap, ap₂, ◌∙◌}
use Rattle.std.specs.Prelude.{codes, bytes_eq, if◌then◌else◌, is_some}
use Rattle.serde_json.specs.Data.{Data, null, boolean, number, string, array, object, Members, no_members, member}
use Rattle.serde_json.specs.Find.{get}
use Rattle.json_walk.specs.Path.{below}
use Rattle.ts_mapping.specs.Least.{under}
use Rattle.ts_mapping.specs.Properties.{Placed, Property, inside, is_level, leaves_in, listed, listed_members, property_at}
use Rattle.ts_mapping.specs.Walks.{fields_among, fields_at, fields_inside, fields_listed}

leaves_append : (ps qs : List Placed) → leaves_in (ps ++ qs) ≡ leaves_in ps ++ leaves_in qs
leaves_append [] qs = refl
leaves_append (p ∷ ps) qs = go (is_level p.property) (leaves_append ps qs)
  where
    go : (v : Bool) → leaves_in (ps ++ qs) ≡ leaves_in ps ++ leaves_in qs
        → (if v then leaves_in (ps ++ qs) else p.property ∷ leaves_in (ps ++ qs)) ≡ (if v then leaves_in ps else p.property ∷ leaves_in ps) ++ leaves_in qs
    go true later = later
    go false later = ap (λ r. p.property ∷ r) later

first_leaf : (v : Bool) (p : Property) (more rest : List Property) → more ≡ rest → (if v then more else p ∷ more) ≡ (if v then [] else p ∷ []) ++ rest
first_leaf true p more rest is = is
first_leaf false p more rest is = ap (λ r. p ∷ r) is

mutual
  leaves_at : (place path : List ℕ) (d : Data) → leaves_in (property_at place path d) ≡ fields_at path d
  leaves_at place path null = refl
  leaves_at place path (boolean b) = refl
  leaves_at place path (number n) = refl
  leaves_at place path (string s) = refl
  leaves_at place path (array ds) = refl
  leaves_at place path (object ms) =
      first_leaf (is_some (get (codes "properties") (object ms))) (record { path = path; value = object ms }) (leaves_in (inside place path ms)) (fields_inside path ms) (leaves_inside place path ms)

  leaves_inside : (place path : List ℕ) (ms : Members) → leaves_in (inside place path ms) ≡ fields_inside path ms
  leaves_inside place path no_members = refl
  leaves_inside place path (member s d ms) =
      leaves_append (if bytes_eq s (codes "properties") then listed (under place s) (Some path) d else []) (inside place path ms)
      ∙ ap₂ (λ xs ys. xs ++ ys) (go (bytes_eq s (codes "properties")) (leaves_listed (under place s) (Some path) d)) (leaves_inside place path ms)
    where
      go : (v : Bool) → leaves_in (listed (under place s) (Some path) d) ≡ fields_listed (Some path) d
          → leaves_in (if v then listed (under place s) (Some path) d else []) ≡ (if v then fields_listed (Some path) d else [])
      go true is = is
      go false is = refl

  pub leaves_listed : (place : List ℕ) (here : Option (List ℕ)) (d : Data) → leaves_in (listed place here d) ≡ fields_listed here d
  leaves_listed place here null = refl
  leaves_listed place here (boolean b) = refl
  leaves_listed place here (number n) = refl
  leaves_listed place here (string s) = refl
  leaves_listed place here (array ds) = refl
  leaves_listed place here (object ms) = leaves_among place here ms

  leaves_among : (place : List ℕ) (here : Option (List ℕ)) (ms : Members) → leaves_in (listed_members place here ms) ≡ fields_among here ms
  leaves_among place here no_members = refl
  leaves_among place here (member s d ms) =
      leaves_append (property_at (under place s) (below here s) d) (listed_members place here ms)
      ∙ ap₂ (λ xs ys. xs ++ ys) (leaves_at (under place s) (below here s) d) (leaves_among place here ms)
