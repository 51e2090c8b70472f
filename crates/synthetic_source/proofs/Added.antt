-- A group that one field more was put in, in memory.
use Rattle.std.proofs.Common.{◌≡◌, ℕ, zero, suc, ◌<◌, ◌≤◌, List, [], ◌∷◌, map, length, get_or, set, true, false, refl, sym, ap, ◌∙◌, subst, arith}
use Rattle.std.specs.List.{insert}
use Rattle.std.specs.Cmp.Lexicographic.{slice_cmp}
use Rattle.std.specs.Ordering.{nat_cmp, match_ordering}
use Rattle.std.specs.declared.cmp.Ordering.{Ordering}
use Rattle.std.specs.declared.cmp.Ordering.TheVariants.{Less, Equal, Greater}
use Rattle.std.proofs.lemmas.List.{map-set, get_or-map}
use Rattle.serde_json.specs.Data.{Data}
use Rattle.synthetic_source.specs.declared.groups.Group.{Group}
use Rattle.synthetic_source.specs.Groups.{Named, Split, joined, empty_group, put_in}
use Rattle.synthetic_source.specs.Places.{Rise, later_place, place_among}
use Rattle.synthetic_source.specs.Seen.{group_names, seen_group, seen_groups}
use Rattle.synthetic_source.proofs.Grouping.{insert_rises, names_put, put_found, put_new}

-- a place is within the list
pub place_within : (s : List ℕ) (ps : List (List ℕ)) → (place_among s ps).at ≤ length ps
place_within s [] = omega arith
place_within s (p ∷ ps) = go (slice_cmp nat_cmp s p) (place_within s ps)
  where
    go : (o : Ordering) → (place_among s ps).at ≤ length ps → (match_ordering o (record { at = 0; found = false }) (record { at = 0; found = true }) (later_place (place_among s ps))).at ≤ length (p ∷ ps)
    go Less later = omega arith
    go Equal later = omega arith
    go Greater later = omega arith

pub found_within : (s : List ℕ) (ps : List (List ℕ)) → (place_among s ps).found ≡ true → (place_among s ps).at < length ps
found_within s [] found = cc
found_within s (p ∷ ps) found = go (slice_cmp nat_cmp s p) (found_within s ps) found
  where
    go : (o : Ordering) → ((place_among s ps).found ≡ true → (place_among s ps).at < length ps)
        → (match_ordering o (record { at = 0; found = false }) (record { at = 0; found = true }) (later_place (place_among s ps))).found ≡ true
        → (match_ordering o (record { at = 0; found = false }) (record { at = 0; found = true }) (later_place (place_among s ps))).at < length (p ∷ ps)
    go Less later found = cc
    go Equal later found = omega arith
    go Greater later found = let rest = later found in omega arith

pub names_seen : (gs : List Group) → group_names gs ≡ map (λ (g : Named). g.name) (seen_groups gs)
names_seen [] = refl
names_seen (g ∷ gs) = ap (λ ss. g.name.now ∷ ss) (names_seen gs)

pub length_names : (gs : List Group) → length (group_names gs) ≡ length gs
length_names [] = refl
length_names (g ∷ gs) = ap (λ n. suc n) (length_names gs)

pub added_found : (gs : List Group) (at : ℕ) (old new : Group) (p : Split) (d : Data) → place_among p.name (group_names gs) ≡ record { at = at; found = true }
    → old ≡ get_or gs at old → seen_group new ≡ joined p.rest d (seen_group old) → seen_groups (set gs at new) ≡ put_in p d (seen_groups gs)
added_found gs at old new p d place is_old is_new =
    let found = found_within p.name (group_names gs) (ap (λ q. q.found) place) in
    let within : at < length gs = omega (arith, ap (λ q. q.at) place, length_names gs) in
    map-set seen_group gs at new
    ∙ (ap (set (seen_groups gs) at) (is_new ∙ ap (λ g. joined p.rest d g) (ap seen_group is_old ∙ sym (get_or-map seen_group gs at old (seen_group old) within)))
    ∙ sym (put_found p d (seen_groups gs) at (seen_group old) (sym (ap (place_among p.name) (names_seen gs)) ∙ place)))

map-insert : (gs : List Group) (i : ℕ) (g : Group) → map seen_group (insert gs i g) ≡ insert (map seen_group gs) i (seen_group g)
map-insert [] zero g = refl
map-insert [] (suc i) g = refl
map-insert (x ∷ xs) zero g = refl
map-insert (x ∷ xs) (suc i) g = ap (λ ys. seen_group x ∷ ys) (map-insert xs i g)

pub added_new : (gs : List Group) (at : ℕ) (new : Group) (p : Split) (d : Data) → place_among p.name (group_names gs) ≡ record { at = at; found = false }
    → seen_group new ≡ joined p.rest d (empty_group p.name) → seen_groups (insert gs at new) ≡ put_in p d (seen_groups gs)
added_new gs at new p d place is_new =
    map-insert gs at new ∙ (ap (insert (seen_groups gs) at) is_new ∙ sym (put_new p d (seen_groups gs) at (sym (ap (place_among p.name) (names_seen gs)) ∙ place)))

pub rises_put : (gs hs : List Group) (p : Split) (d : Data) → seen_groups hs ≡ put_in p d (seen_groups gs) → Rise (group_names gs) → Rise (group_names hs)
rises_put gs hs p d is rise =
    subst Rise (sym (names_seen hs ∙ ap (map (λ (g : Named). g.name)) is ∙ names_put p d (seen_groups gs)))
    (insert_rises p.name (map (λ (g : Named). g.name) (seen_groups gs)) (subst Rise (names_seen gs) rise))
