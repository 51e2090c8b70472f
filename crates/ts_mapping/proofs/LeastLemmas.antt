-- The least path of joined lists.
use Rattle.std.proofs.Common.{◌≡◌, ℕ, List, [], ◌∷◌, ◌++◌, ◌+◌, ◌<◌, Option, drop, get_or, length, map, refl, add-one, drop-cons}
use Rattle.ts_mapping.specs.Least.{all_faults, least_with, lesser}

pub least_with_append : (held : Option (List ℕ)) (ps qs : List (List ℕ)) → least_with held (ps ++ qs) ≡ least_with (least_with held ps) qs
least_with_append held [] qs = refl
least_with_append held (p ∷ ps) qs = least_with_append (lesser held p) ps qs

-- one element further in a list
pub step_drop : {S T : Type 0} (g : S → T) (f : T → List (List ℕ)) (xs : List S) (i : ℕ) (x : S) (held next : Option (List ℕ)) → i < length xs → x ≡ get_or xs i x → next ≡ least_with held (f (g x)) → least_with next (all_faults f (map g (drop (i + 1) xs))) ≡ least_with held (all_faults f (map g (drop i xs)))
step_drop g f xs i x held next lt is ok =
    rw (add-one, drop-cons xs i x, ← is, least_with_append, ok) refl
