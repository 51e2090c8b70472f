-- Levels of names, whatever bounds their number.
use Rattle.std.proofs.Common.{◌≡◌, ℕ, zero, suc, ◌<◌, ◌≤◌, List, [], ◌∷◌, map, length, get_or, Bool, true, false, cond, nat_eq, Option, Some, None, refl, sym, ap, ◌∙◌, arith}
use Rattle.std.proofs.lemmas.List.{get_or-map, length-map}
use Rattle.serde_json.specs.Data.{Data, Members, member}
use Rattle.json_walk.specs.Path.{Path, end, text, behind_name}
use Rattle.synthetic_source.specs.Levels.{Shown, names_of, value_at, with_rest, under, members_by, value_or, level, longest, levels}
use Rattle.synthetic_source.specs.Groups.{Named, group_at, groups_in, named_members}
use Rattle.synthetic_source.specs.Seen.{seen_all, seen_group, seen_groups}
use Rattle.synthetic_source.specs.declared.groups.Group.{Group}

-- what is left behind a name and a dot is shorter
rest_shorter : (s p r : List ℕ) → behind_name s p ≡ Some (text r) → suc (length r) ≤ length p
rest_shorter [] [] r e = cc
rest_shorter [] (c ∷ t) r e = go (nat_eq 46 c) e
  where
    go : (v : Bool) → cond v (Some (text t)) None ≡ Some (text r) → suc (length r) ≤ suc (length t)
    go true e = let same : t ≡ r = cc in omega (arith, ap length same)
    go false e = cc
rest_shorter (x ∷ s) [] r e = cc
rest_shorter (x ∷ s) (c ∷ t) r e = go (nat_eq x c) e (rest_shorter s t r)
  where
    go : (v : Bool) → cond v (behind_name s t) None ≡ Some (text r) → (behind_name s t ≡ Some (text r) → suc (length r) ≤ length t) → suc (length r) ≤ suc (length t)
    go true e later = let rest = later e in omega arith
    go false e later = cc

-- the fields below a name have shorter paths
pub longest_under : (s : List ℕ) (es : List Shown) (n : ℕ) → longest es ≤ suc n → longest (under s es) ≤ n
longest_under s [] n le = omega arith
longest_under s (e ∷ es) n le = go (behind_name s e.path) refl (longest_under s es n (omega arith))
  where
    go : (o : Option Path) → behind_name s e.path ≡ o → longest (under s es) ≤ n → longest (with_rest o e.value (under s es)) ≤ n
    go None is later = later
    go (Some end) is later = later
    go (Some (text r)) is later = let short = rest_shorter s e.path r is in omega arith

value_or_same : (o : Option Data) (ms ns : Members) → ms ≡ ns → value_or o ms ≡ value_or o ns
value_or_same o ms ns same = ap (value_or o) same

members_same : (f g : List ℕ → Data) (ns : List (List ℕ)) → ((s : List ℕ) → f s ≡ g s) → members_by f ns ≡ members_by g ns
members_same f g [] same = refl
members_same f g (s ∷ ss) same = λ i. member s (same s i) (members_same f g ss same i)

none_longest : (es : List Shown) → longest es ≤ 0 → es ≡ []
none_longest [] le = refl
none_longest (e ∷ es) le = absurd (omega arith)

-- a greater bound on the number of levels changes nothing
pub level_same : (n m : ℕ) (es : List Shown) → longest es ≤ n → longest es ≤ m → level n es ≡ level m es
level_same zero zero es short_n short_m = refl
level_same zero (suc m) es short_n short_m = sym (ap (level (suc m)) (none_longest es short_n))
level_same (suc n) zero es short_n short_m = ap (level (suc n)) (none_longest es short_m)
level_same (suc n) (suc m) es short_n short_m =
    members_same _ _ (names_of es) (λ s. value_or_same (value_at s es) _ _ (level_same n m (under s es) (longest_under s es n short_n) (longest_under s es m short_m)))

named_by : (es : List Shown) (ns : List (List ℕ)) → named_members (map (group_at es) ns) ≡ members_by (λ s. value_or (value_at s es) (levels (under s es))) ns
named_by es [] = refl
named_by es (s ∷ ss) = ap (member s (value_or (value_at s es) (levels (under s es)))) (named_by es ss)

-- a member for each group of a level is the level
pub named_levels : (es : List Shown) → named_members (groups_in es) ≡ levels es
unfolding levels
named_levels es = named_by es (names_of es) ∙ go (longest es) refl
  where
    go : (n : ℕ) → longest es ≡ n → members_by (λ s. value_or (value_at s es) (levels (under s es))) (names_of es) ≡ level n es
    go zero is = ap (λ xs. members_by (λ s. value_or (value_at s es) (levels (under s es))) (names_of xs)) (none_longest es (omega (arith, is)))
    go (suc n) is = members_same _ _ (names_of es) (λ s. value_or_same (value_at s es) _ _ (level_same (longest (under s es)) n (under s es) (omega arith) (longest_under s es n (omega (arith, is)))))

pub group_in : (gs : List Group) (es : List Shown) (i : ℕ) (g : Group) → seen_groups gs ≡ groups_in es → i < length gs → g ≡ get_or gs i g → seen_group g ≡ group_at es (get_or (names_of es) i [])
group_in gs es i g same below here =
    let within : i < length (names_of es) = omega (arith, ap length same, length-map gs seen_group, length-map (names_of es) (group_at es)) in
    ap seen_group here ∙ (sym (get_or-map seen_group gs i g (seen_group g) below) ∙ (ap (λ xs. get_or xs i (seen_group g)) same ∙ get_or-map (group_at es) (names_of es) i [] (seen_group g) within))

-- a group's fields have shorter paths than all
pub below_shorter : (gs : List Group) (es : List Shown) (i : ℕ) (g : Group) → seen_groups gs ≡ groups_in es → i < length gs → g ≡ get_or gs i g → longest (seen_all g.below.items) < longest es
below_shorter gs [] i g same below here = absurd (omega (arith, ap length same, length-map gs seen_group))
below_shorter gs (e ∷ es) i g same below here = go (longest (e ∷ es)) refl
  where
    go : (n : ℕ) → longest (e ∷ es) ≡ n → longest (seen_all g.below.items) < longest (e ∷ es)
    go zero is = absurd (omega arith)
    go (suc n) is =
        let shorter = longest_under (get_or (names_of (e ∷ es)) i []) (e ∷ es) n (omega (arith, is)) in
        omega (arith, shorter, is, ap (λ (x : Named). longest x.below) (group_in gs (e ∷ es) i g same below here))
