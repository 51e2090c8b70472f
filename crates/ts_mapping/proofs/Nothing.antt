-- What holds of a body in which nothing is at fault.
use Rattle.std.proofs.Common.{◌≡◌, ℕ, List, [], ◌∷◌, ◌++◌, Bool, true, false, Option, Some, None, Ordering, Less, Equal, Greater, refl, sym, ◌∙◌}
use Rattle.std.specs.Cmp.Lexicographic.{slice_cmp}
use Rattle.std.specs.Ordering.{nat_cmp, match_ordering}
use Rattle.ts_mapping.specs.Least.{fault_unless, least, least_with, lesser}
use Rattle.ts_mapping.specs.Faults.{fault_at, first_of, look, looks}
use Rattle.ts_mapping.specs.declared.faults.Fault.{Fault}
use Rattle.ts_mapping.specs.declared.kinds.MapKind.{MapKind}

-- ---- the least of no paths

record IsThere (o : Option (List ℕ)) : Type 0 where
  path : List ℕ
  is : o ≡ Some path

lesser_there : (held p : List ℕ) → IsThere (lesser (Some held) p)
lesser_there held p = go (slice_cmp nat_cmp p held)
  where
    go : (o : Ordering) → IsThere (match_ordering o (Some p) (Some held) (Some held))
    go Less = record { path = p; is = refl }
    go Equal = record { path = held; is = refl }
    go Greater = record { path = held; is = refl }

least_there : (held : Option (List ℕ)) → IsThere held → (ps : List (List ℕ)) → IsThere (least_with held ps)
least_there held there [] = there
least_there None there (p ∷ ps) = absurd (none_some there.path there.is)
  where
    none_some : (q : List ℕ) → None ≡ Some q → ⊥
    none_some q e = cc
least_there (Some held) there (p ∷ ps) = least_there (lesser (Some held) p) (lesser_there held p) ps

not_there : (o : Option (List ℕ)) → IsThere o → o ≡ None → ⊥
not_there o there none = go there.path (sym none ∙ there.is)
  where
    go : (q : List ℕ) → None ≡ Some q → ⊥
    go q e = cc

-- no path is the least of no paths alone
pub no_paths : (ps : List (List ℕ)) → least ps ≡ None → ps ≡ []
no_paths [] is = refl
no_paths (p ∷ ps) is = absurd (not_there (least (p ∷ ps)) (least_there (Some p) (record { path = p; is = refl }) ps) is)

pub first_nothing : (ps qs : List (List ℕ)) → ps ++ qs ≡ [] → ps ≡ []
first_nothing [] qs is = refl
first_nothing (p ∷ ps) qs is = cc

pub second_nothing : (ps qs : List (List ℕ)) → ps ++ qs ≡ [] → qs ≡ []
second_nothing [] qs is = is
second_nothing (p ∷ ps) qs is = cc

pub holds : (b : Bool) (p : List ℕ) → fault_unless b p ≡ [] → b ≡ true
holds true p is = refl
holds false p is = cc

-- ---- looks that find nothing

pub look_nothing : (kind : MapKind) (faults : List (List ℕ)) → look kind faults ≡ None → faults ≡ []
look_nothing kind faults is = no_paths faults (go (least faults) is)
  where
    go : (o : Option (List ℕ)) → fault_at kind o ≡ None → o ≡ None
    go None is = refl
    go (Some p) is = cc

pub first_look : (o : Option Fault) (looks : List (Option Fault)) → first_of (o ∷ looks) ≡ None → o ≡ None
first_look None looks is = refl
first_look (Some f) looks is = cc

pub later_looks : (o : Option Fault) (looks : List (Option Fault)) → first_of (o ∷ looks) ≡ None → first_of looks ≡ None
later_looks None looks is = is
later_looks (Some f) looks is = cc

-- where the first looks find nothing, the later ones count
pub first_of_later : (early later : List (Option Fault)) → first_of early ≡ None → first_of (early ++ later) ≡ first_of later
first_of_later [] later is = refl
first_of_later (None ∷ early) later is = first_of_later early later is
first_of_later (Some f ∷ early) later is = cc

-- and where they find something, that
pub first_of_early : (early later : List (Option Fault)) (fault : Fault) → first_of early ≡ Some fault → first_of (early ++ later) ≡ Some fault
first_of_early [] later fault is = cc
first_of_early (None ∷ early) later fault is = first_of_early early later fault is
first_of_early (Some f ∷ early) later fault is = is
