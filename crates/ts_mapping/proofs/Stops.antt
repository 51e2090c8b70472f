-- Why a walk over properties needn't go on below a path that is too long.
use Rattle.std.proofs.Common.{◌≡◌, ◌<◌, ℕ, List, [], ◌∷◌, ◌++◌, Bool, true, false, Option, Some, None, Ordering, Less, Equal, Greater, length, refl, sym, ap, ◌∙◌, subst, arith}
use Rattle.std.specs.Prelude.{codes, is_some, bytes_eq, if◌then◌else◌}
use Rattle.std.specs.Cmp.{tied_itself}
use Rattle.std.specs.Cmp.Lexicographic.{slice_cmp, nat_list_cmp_total}
use Rattle.std.specs.Ordering.{nat_cmp, match_ordering, ordering_reverse, ordering_then}
use Rattle.std.proofs.lemmas.Cmp.{nat_cmp_total}
use Rattle.std.proofs.lemmas.List.{append_assoc, append-nil}
use Rattle.serde_json.specs.Data.{Data, null, boolean, number, string, array, object, Members, no_members, member}
use Rattle.serde_json.specs.Find.{get}
use Rattle.json_walk.specs.Path.{below}
use Rattle.row_cells.specs.Limits.{longest_path}
use Rattle.json_walk.specs.Shapes.{is_object}
use Rattle.ts_mapping.specs.Least.{all_faults, fault_unless, least_with, lesser, under, IsAtMost}
use Rattle.ts_mapping.specs.LeastLaws.{at_most_chain, at_most_itself, less_at_most, less_greater, not_behind}
use Rattle.ts_mapping.specs.PathLaws.{short_path}
use Rattle.ts_mapping.specs.Paths.{is_among, is_field_path}
use Rattle.ts_mapping.specs.Properties.{Placed, inside, listed, listed_members, property_at}
use Rattle.ts_mapping.specs.Shapes.{aggregate_faults, field_names, level_faults, level_names, member_faults, property_faults, value_faults}
use Rattle.ts_mapping.specs.Trees.{unknown_in, unknown_members}
use Rattle.ts_mapping.proofs.Steps.{faults_append}

-- paths that begin with a place
abbrev AllFrom : List ℕ → List (List ℕ) → Type 0
AllFrom p [] = Unit {0}
AllFrom p (q ∷ qs) = ((rest : List ℕ) × (q ≡ p ++ rest)) × AllFrom p qs

from_append : (p : List ℕ) (xs ys : List (List ℕ)) → AllFrom p xs → AllFrom p ys → AllFrom p (xs ++ ys)
from_append p [] ys one two = two
from_append p (x ∷ xs) ys one two = (one.0, from_append p xs ys one.1 two)

from_under : (p s : List ℕ) (qs : List (List ℕ)) → AllFrom (under p s) qs → AllFrom p qs
from_under p s [] all = tt
from_under p s (q ∷ qs) all = ((46 ∷ s ++ all.0.0, all.0.1 ∙ append_assoc p (46 ∷ s) all.0.0), from_under p s qs all.1)

from_unless : (p s : List ℕ) (b : Bool) → AllFrom p (fault_unless b (under p s))
from_unless p s true = tt
from_unless p s false = ((46 ∷ s, refl), tt)

from_itself : (p : List ℕ) (b : Bool) → AllFrom p (fault_unless b p)
from_itself p true = tt
from_itself p false = (([], sym (append-nil p)), tt)

-- ---- what is at fault in a value stands at its place or behind it

members_from : (known : List (List ℕ)) (p : List ℕ) (ms : Members) → AllFrom p (unknown_members known (Some p) ms)
members_from known p no_members = tt
members_from known p (member s d ms) = from_append p (fault_unless (is_among s known) (under p s)) (unknown_members known (Some p) ms) (from_unless p s (is_among s known)) (members_from known p ms)

unknown_from : (known : List (List ℕ)) (p : List ℕ) (d : Data) → AllFrom p (unknown_in known (Some p) d)
unknown_from known p null = tt
unknown_from known p (boolean b) = tt
unknown_from known p (number n) = tt
unknown_from known p (string s) = tt
unknown_from known p (array ds) = tt
unknown_from known p (object ms) = members_from known p ms

three_from : (p : List ℕ) (xs : List (List ℕ)) (s t : List ℕ) (a b : Bool) → AllFrom p xs → AllFrom p (xs ++ fault_unless a (under p s) ++ fault_unless b (under p t))
three_from p xs s t a b one =
    from_append p (xs ++ fault_unless a (under p s)) (fault_unless b (under p t)) (from_append p xs (fault_unless a (under p s)) one (from_unless p s a)) (from_unless p t b)

level_from : (p : List ℕ) (d : Data) → AllFrom p (level_faults p d)
unfolding level_faults
level_from p d = three_from p (unknown_in level_names (Some p) d) (codes "type") (codes "properties") _ _ (unknown_from level_names p d)

member_from : (p : List ℕ) (d : Data) → AllFrom p (member_faults p d)
unfolding member_faults
member_from p d = three_from p (unknown_in field_names (Some p) d) (codes "type") (codes "time_series_dimension") _ _ (unknown_from field_names p d)

aggregate_from : (p : List ℕ) (d : Data) → AllFrom p (aggregate_faults p d)
unfolding aggregate_faults
aggregate_from p d = three_from p [] (codes "metrics") (codes "default_metric") _ _ tt

value_from : (p : List ℕ) (d : Data) → AllFrom p (value_faults p d)
value_from p d = go (is_object d) (is_some (get (codes "properties") d))
  where
    go : (a b : Bool) → AllFrom p (if a then (if b then level_faults p d else member_faults p d ++ aggregate_faults p d) else p ∷ [])
    go true true = level_from p d
    go true false = from_append p (member_faults p d) (aggregate_faults p d) (member_from p d) (aggregate_from p d)
    go false b = (([], sym (append-nil p)), tt)

property_from : (p q : List ℕ) (d : Data) → AllFrom p (property_faults (record { place = p; property = record { path = q; value = d } }))
unfolding property_faults
property_from p q d = from_append p (fault_unless (is_field_path q) p) (value_faults p d) (from_itself p (is_field_path q)) (value_from p d)

one_from : (p q : List ℕ) (d : Data) → AllFrom p (property_faults (record { place = p; property = record { path = q; value = d } }) ++ [])
one_from p q d = from_append p (property_faults (record { place = p; property = record { path = q; value = d } })) [] (property_from p q d) tt

-- ---- and so do the properties inside

joined_from : (p : List ℕ) (xs ys : List Placed) → AllFrom p (all_faults property_faults xs) → AllFrom p (all_faults property_faults ys) → AllFrom p (all_faults property_faults (xs ++ ys))
joined_from p xs ys one two = subst (AllFrom p) (sym (faults_append property_faults xs ys)) (from_append p (all_faults property_faults xs) (all_faults property_faults ys) one two)

mutual
  all_from : (p q : List ℕ) (d : Data) → AllFrom p (all_faults property_faults (property_at p q d))
  all_from p q null = one_from p q null
  all_from p q (boolean b) = one_from p q (boolean b)
  all_from p q (number n) = one_from p q (number n)
  all_from p q (string s) = one_from p q (string s)
  all_from p q (array ds) = one_from p q (array ds)
  all_from p q (object ms) = from_append p (property_faults (record { place = p; property = record { path = q; value = object ms } })) (all_faults property_faults (inside p q ms)) (property_from p q (object ms)) (inside_from p q ms)

  inside_from : (p q : List ℕ) (ms : Members) → AllFrom p (all_faults property_faults (inside p q ms))
  inside_from p q no_members = tt
  inside_from p q (member s d ms) = joined_from p (if bytes_eq s (codes "properties") then listed (under p s) (Some q) d else []) (inside p q ms) (go (bytes_eq s (codes "properties")) (from_under p s (all_faults property_faults (listed (under p s) (Some q) d)) (listed_from (under p s) (Some q) d))) (inside_from p q ms)
    where
      go : (v : Bool) → AllFrom p (all_faults property_faults (listed (under p s) (Some q) d)) → AllFrom p (all_faults property_faults (if v then listed (under p s) (Some q) d else []))
      go true all = all
      go false all = tt

  listed_from : (p : List ℕ) (here : Option (List ℕ)) (d : Data) → AllFrom p (all_faults property_faults (listed p here d))
  listed_from p here null = tt
  listed_from p here (boolean b) = tt
  listed_from p here (number n) = tt
  listed_from p here (string s) = tt
  listed_from p here (array ds) = tt
  listed_from p here (object ms) = among_from p here ms

  among_from : (p : List ℕ) (here : Option (List ℕ)) (ms : Members) → AllFrom p (all_faults property_faults (listed_members p here ms))
  among_from p here no_members = tt
  among_from p here (member s d ms) =
      joined_from p (property_at (under p s) (below here s) d) (listed_members p here ms)
      (from_under p s (all_faults property_faults (property_at (under p s) (below here s) d)) (all_from (under p s) (below here s) d)) (among_from p here ms)

-- ---- so none of them is less than the place

front_at_most : (p rest : List ℕ) → IsAtMost p (p ++ rest)
front_at_most [] [] = at_most_itself []
front_at_most [] (r ∷ rest) = less_at_most [] (r ∷ rest) refl
front_at_most (b ∷ p) rest = λ e. front_at_most p rest (sym (ap (λ o. ordering_then o (slice_cmp nat_cmp p (p ++ rest))) (tied_itself nat_cmp_total b)) ∙ e)

kept : (h p : List ℕ) → IsAtMost h p → (qs : List (List ℕ)) → AllFrom p qs → least_with (Some h) qs ≡ Some h
kept h p le [] all = refl
kept h p le (q ∷ qs) all = go (slice_cmp nat_cmp q h) refl (kept h p le qs all.1)
  where
    behind : IsAtMost h q
    behind = subst (IsAtMost h) (sym all.0.1) (at_most_chain h p (p ++ all.0.0) le (front_at_most p all.0.0))

    go : (o : Ordering) → slice_cmp nat_cmp q h ≡ o → least_with (Some h) qs ≡ Some h → least_with (match_ordering o (Some q) (Some h) (Some h)) qs ≡ Some h
    go Less is later = absurd (behind (nat_list_cmp_total.antisymm h q ∙ ap ordering_reverse is))
    go Equal is later = later
    go Greater is later = later

record IsHeld (o : Option (List ℕ)) (p : List ℕ) : Type 0 where
  path : List ℕ
  is : o ≡ Some path
  at_most : IsAtMost path p

lesser_held : (held : Option (List ℕ)) (p : List ℕ) → IsHeld (lesser held p) p
lesser_held None p = record { path = p; is = refl; at_most = at_most_itself p }
lesser_held (Some g) p = go (slice_cmp nat_cmp p g) refl
  where
    no : Less ≡ Equal → ⊥
    no e = cc

    go : (o : Ordering) → slice_cmp nat_cmp p g ≡ o → IsHeld (match_ordering o (Some p) (Some g) (Some g)) p
    go Less is = record { path = p; is = refl; at_most = at_most_itself p }
    go Equal is = record { path = g; is = refl; at_most = not_behind g p (λ less. no (sym less ∙ is)) }
    go Greater is = record { path = g; is = refl; at_most = not_behind g p (λ less. less_greater (sym less ∙ is)) }

stops : (held : Option (List ℕ)) (p : List ℕ) (qs : List (List ℕ)) → AllFrom p qs → lesser held p ≡ least_with (lesser held p) qs
stops held p qs all =
    let one = lesser_held held p in
    one.is ∙ (sym (kept one.path p one.at_most qs all) ∙ ap (λ o. least_with o qs) (sym one.is))

-- ---- a property with a path that is too long

too_long : (q : List ℕ) → longest_path < length q → is_field_path q ≡ false
too_long q long = go (is_field_path q) refl
  where
    go : (v : Bool) → is_field_path q ≡ v → is_field_path q ≡ false
    go false is = is
    go true is = let short = short_path q is in absurd (omega (arith, short, long))

-- the faults of a property with such a path, and of those inside it, are its place and paths behind that
record IsStop (p : List ℕ) (faults : List (List ℕ)) : Type 0 where
  rest : List (List ℕ)
  is : faults ≡ p ∷ rest
  from : AllFrom p rest

stop_here : (p q : List ℕ) (d : Data) (more : List (List ℕ)) → is_field_path q ≡ false → AllFrom p more → IsStop p (property_faults (record { place = p; property = record { path = q; value = d } }) ++ more)
unfolding property_faults
stop_here p q d more long from = record {
  rest = value_faults p d ++ more;
  is = ap (λ b. fault_unless b p ++ value_faults p d ++ more) long;
  from = from_append p (value_faults p d) more (value_from p d) from;
}

stop_at : (p q : List ℕ) (d : Data) → is_field_path q ≡ false → IsStop p (all_faults property_faults (property_at p q d))
stop_at p q null long = stop_here p q null [] long tt
stop_at p q (boolean b) long = stop_here p q (boolean b) [] long tt
stop_at p q (number n) long = stop_here p q (number n) [] long tt
stop_at p q (string s) long = stop_here p q (string s) [] long tt
stop_at p q (array ds) long = stop_here p q (array ds) [] long tt
stop_at p q (object ms) long = stop_here p q (object ms) (all_faults property_faults (inside p q ms)) long (inside_from p q ms)

-- so the least of them is told by the place alone
pub long_stops : (held : Option (List ℕ)) (p q : List ℕ) (d : Data) → longest_path < length q → lesser held p ≡ least_with held (all_faults property_faults (property_at p q d))
long_stops held p q d long =
    let stop = stop_at p q d (too_long q long) in
    stops held p stop.rest stop.from ∙ ap (least_with held) (sym stop.is)
