-- Loops of walks over a body, one member further.
use Rattle.std.proofs.Common.{◌≡◌, BTreeMap, Global, IsSome, String, ℕ, List, [], ◌∷◌, ◌++◌, Bool, true, false, Option, Some, None, refl, sym, ap, ◌∙◌}
use Rattle.std.specs.Prelude.{if◌then◌else◌}
use Rattle.std.proofs.lemmas.List.{append_assoc}
use Rattle.serde_json.specs.Data.{object}
use Rattle.serde_json.specs.View.{members_view, view}
use Rattle.serde_json.specs.declared.value.Value.{Value}
use Rattle.serde_json.specs.declared.value.Value.TheVariants.{Object}
use Rattle.serde_json.proofs.Views.{view-Object}
use Rattle.json_walk.specs.Path.{below}
use Rattle.ts_mapping.specs.Least.{all_faults, least_with, under}
use Rattle.ts_mapping.specs.Settings.{Setting, is_known}
use Rattle.ts_mapping.specs.Walks.{known_settings, text_at}
use Rattle.ts_mapping.proofs.LeastLemmas.{least_with_append}

pub faults_append : {T : Type 0} (f : T → List (List ℕ)) (xs ys : List T) → all_faults f (xs ++ ys) ≡ all_faults f xs ++ all_faults f ys
faults_append f [] ys = refl
faults_append f (x ∷ xs) ys = ap (λ r. f x ++ r) (faults_append f xs ys) ∙ sym (append_assoc (f x) (all_faults f xs) (all_faults f ys))

-- the least fault so far, of a list that is joined of what is looked at and the rest
pub least_step : {T : Type 0} (f : T → List (List ℕ)) (held next all : Option (List ℕ)) (xs ys both : List T) → both ≡ xs ++ ys → next ≡ least_with held (all_faults f xs) → least_with held (all_faults f both) ≡ all → least_with next (all_faults f ys) ≡ all
least_step f held next all xs ys both opens ok inv =
    ap (λ h. least_with h (all_faults f ys)) ok
    ∙ (sym (least_with_append held (all_faults f xs) (all_faults f ys))
    ∙ (ap (least_with held) (sym (faults_append f xs ys))
    ∙ (ap (λ zs. least_with held (all_faults f zs)) (sym opens) ∙ inv)))

-- what was found so far, likewise
pub found_step : {T : Type 0} (held next all xs ys both : List T) → both ≡ xs ++ ys → next ≡ held ++ xs → held ++ both ≡ all → next ++ ys ≡ all
found_step held next all xs ys both opens ok inv =
    ap (λ h. h ++ ys) ok ∙ (append_assoc held xs ys ∙ (ap (λ zs. held ++ zs) (sym opens) ∙ inv))

pub known_append : (xs ys : List Setting) → known_settings (xs ++ ys) ≡ known_settings xs ++ known_settings ys
known_append [] ys = refl
known_append (s ∷ xs) ys = go (is_known s.path) (known_append xs ys)
  where
    go : (v : Bool) → known_settings (xs ++ ys) ≡ known_settings xs ++ known_settings ys
        → (if v then s ∷ known_settings (xs ++ ys) else known_settings (xs ++ ys)) ≡ (if v then s ∷ known_settings xs else known_settings xs) ++ known_settings ys
    go true later = ap (λ r. s ∷ r) later
    go false later = later

-- an object in memory
pub seen_object : (v : Value) (m : BTreeMap (String Global) Value) → v ≡ Object m → view v ≡ object (members_view m.entries)
seen_object v m is = ap view is ∙ view-Object m

-- the place of a member of what stands at a place
pub place_under : (place : Option (List ℕ)) (s : List ℕ) → IsSome place → below place s ≡ under (text_at place) s
place_under None s some = absurd (no some)
  where
    no : false ≡ true → ⊥
    no e = cc
place_under (Some p) s some = refl

-- a place that isn't the tree's own is its text
pub some_at : (place : Option (List ℕ)) → IsSome place → place ≡ Some (text_at place)
some_at None some = absurd (no some)
  where
    no : false ≡ true → ⊥
    no e = cc
some_at (Some p) some = refl
