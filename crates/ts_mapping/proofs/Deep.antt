-- The least of the settings below a long path.
use Rattle.std.proofs.Common.{◌≡◌, ◌<◌, ◌≤◌, ℕ, List, [], ◌∷◌, ◌++◌, Bool, true, false, map, drop, length, Option, Some, None, Ordering, Less, Equal, Greater, refl, sym, ap, ap₂, ◌∙◌, subst, arith}
use Rattle.std.specs.Prelude.{codes, bytes_eq, if◌then◌else◌, option_map, take}
use Rattle.std.specs.Cmp.{tied_itself}
use Rattle.std.specs.Cmp.Lexicographic.{slice_cmp, nat_list_cmp_total}
use Rattle.std.specs.Ordering.{nat_cmp, match_ordering, ordering_reverse, ordering_then}
use Rattle.std.proofs.lemmas.Cmp.{nat_cmp_total}
use Rattle.std.proofs.lemmas.List.{append_assoc, length-append, length-drop}
use Rattle.std.proofs.lemmas.Slice.Eq.{bytes_eq-Decides}
use Rattle.serde_json.specs.Data.{Data, null, boolean, number, string, array, object, Members, no_members, member}
use Rattle.ts_mapping.specs.Least.{all_faults, fault_unless, least, least_with, lesser, under, IsAtMost}
use Rattle.ts_mapping.specs.LeastLaws.{at_most_chain, not_behind}
use Rattle.ts_mapping.specs.Limits.{longest_setting}
use Rattle.ts_mapping.specs.Paths.{is_among}
use Rattle.ts_mapping.specs.Settings.{Setting, flat, flat_members, is_known, key_names, short_path, unknown_setting}
use Rattle.ts_mapping.specs.Walks.{setting_paths}
use Rattle.ts_mapping.proofs.LeastLemmas.{least_with_append}

-- ---- the least of a list, and of what is held besides

abbrev join : Option (List ℕ) → Option (List ℕ) → Option (List ℕ)
join held None = held
join held (Some p) = lesser held p

less_equal : Less ≡ Equal → ⊥
less_equal e = cc

one_more : (held : Option (List ℕ)) (p q : List ℕ) → lesser (lesser held p) q ≡ join held (lesser (Some p) q)
one_more None p q = go (slice_cmp nat_cmp q p)
  where
    go : (o : Ordering) → match_ordering o (Some q) (Some p) (Some p) ≡ join None (match_ordering o (Some q) (Some p) (Some p))
    go Less = refl
    go Equal = refl
    go Greater = refl
one_more (Some h) p q = go (slice_cmp nat_cmp p h) refl (slice_cmp nat_cmp q p) refl
  where
    -- where the path isn't less than what is held, and the next isn't less than that, the next isn't less than what is held
    stays : IsAtMost h p → IsAtMost p q → lesser (Some h) q ≡ Some h
    stays one two = by (slice_cmp nat_cmp q h) refl
      where
        by : (o : Ordering) → slice_cmp nat_cmp q h ≡ o → match_ordering o (Some q) (Some h) (Some h) ≡ Some h
        by Less is = absurd (at_most_chain h p q one two (nat_list_cmp_total.antisymm h q ∙ ap ordering_reverse is))
        by Equal is = refl
        by Greater is = refl

    held_not : (o : Ordering) → slice_cmp nat_cmp p h ≡ o → (o ≡ Less → ⊥) → IsAtMost h p
    held_not o is never = not_behind h p (λ less. never (sym is ∙ less))

    later_not : (o : Ordering) → slice_cmp nat_cmp q p ≡ o → (o ≡ Less → ⊥) → IsAtMost p q
    later_not o is never = not_behind p q (λ less. never (sym is ∙ less))

    greater_less : Greater ≡ Less → ⊥
    greater_less e = cc

    equal_less : Equal ≡ Less → ⊥
    equal_less e = cc

    kept : (a : Ordering) → slice_cmp nat_cmp p h ≡ a → (a ≡ Less → ⊥) → lesser (Some h) p ≡ Some h
    kept Less is never = absurd (never refl)
    kept Equal is never = ap (λ o. match_ordering o (Some p) (Some h) (Some h)) is
    kept Greater is never = ap (λ o. match_ordering o (Some p) (Some h) (Some h)) is

    go : (a : Ordering) → slice_cmp nat_cmp p h ≡ a → (b : Ordering) → slice_cmp nat_cmp q p ≡ b
        → lesser (match_ordering a (Some p) (Some h) (Some h)) q ≡ join (Some h) (match_ordering b (Some q) (Some p) (Some p))
    go Less is_a Less is_b =
        ap (λ o. match_ordering o (Some q) (Some p) (Some p)) is_b
        ∙ sym (ap (λ o. match_ordering o (Some q) (Some h) (Some h)) (nat_list_cmp_total.trans q p h is_b is_a))
    go Less is_a Equal is_b = ap (λ o. match_ordering o (Some q) (Some p) (Some p)) is_b ∙ sym (ap (λ o. match_ordering o (Some p) (Some h) (Some h)) is_a)
    go Less is_a Greater is_b = ap (λ o. match_ordering o (Some q) (Some p) (Some p)) is_b ∙ sym (ap (λ o. match_ordering o (Some p) (Some h) (Some h)) is_a)
    go Equal is_a Less is_b = refl
    go Equal is_a Equal is_b = stays (held_not Equal is_a equal_less) (later_not Equal is_b equal_less) ∙ sym (kept Equal is_a equal_less)
    go Equal is_a Greater is_b = stays (held_not Equal is_a equal_less) (later_not Greater is_b greater_less) ∙ sym (kept Equal is_a equal_less)
    go Greater is_a Less is_b = refl
    go Greater is_a Equal is_b = stays (held_not Greater is_a greater_less) (later_not Equal is_b equal_less) ∙ sym (kept Greater is_a greater_less)
    go Greater is_a Greater is_b = stays (held_not Greater is_a greater_less) (later_not Greater is_b greater_less) ∙ sym (kept Greater is_a greater_less)

joined : (held : Option (List ℕ)) (ps : List (List ℕ)) → least_with held ps ≡ join held (least ps)
joined held [] = refl
joined held (p ∷ ps) = joined (lesser held p) ps ∙ (go (least ps) ∙ ap (join held) (sym (joined (Some p) ps)))
  where
    go : (o : Option (List ℕ)) → join (lesser held p) o ≡ join held (join (Some p) o)
    go None = refl
    go (Some q) = one_more held p q

-- the least of a list is put to what is held, or there is none
pub put_joined : (held next : Option (List ℕ)) (ps : List (List ℕ)) (p : List ℕ) → least ps ≡ Some p → next ≡ lesser held p → next ≡ least_with held ps
put_joined held next ps p one is = is ∙ (sym (ap (join held) one) ∙ sym (joined held ps))

pub none_joined : (held : Option (List ℕ)) (ps : List (List ℕ)) → least ps ≡ None → held ≡ least_with held ps
none_joined held ps none = sym (ap (join held) none) ∙ sym (joined held ps)

-- ---- paths behind one front

same_front : (q a b : List ℕ) → slice_cmp nat_cmp (q ++ a) (q ++ b) ≡ slice_cmp nat_cmp a b
same_front [] a b = refl
same_front (c ∷ q) a b = ap (λ o. ordering_then o (slice_cmp nat_cmp (q ++ a) (q ++ b))) (tied_itself nat_cmp_total c) ∙ same_front q a b

lesser_under : (q : List ℕ) (held : Option (List ℕ)) (p : List ℕ) → lesser (option_map (under q) held) (under q p) ≡ option_map (under q) (lesser held p)
lesser_under q None p = refl
lesser_under q (Some h) p = ap (λ o. match_ordering o (Some (under q p)) (Some (under q h)) (Some (under q h))) (same_front q (46 ∷ p) (46 ∷ h) ∙ dotted) ∙ go (slice_cmp nat_cmp p h)
  where
    dotted : slice_cmp nat_cmp (46 ∷ p) (46 ∷ h) ≡ slice_cmp nat_cmp p h
    dotted = same_front (46 ∷ []) p h

    go : (o : Ordering) → match_ordering o (Some (under q p)) (Some (under q h)) (Some (under q h)) ≡ option_map (under q) (match_ordering o (Some p) (Some h) (Some h))
    go Less = refl
    go Equal = refl
    go Greater = refl

under_with : (q : List ℕ) (held : Option (List ℕ)) (ps : List (List ℕ)) → least_with (option_map (under q) held) (map (under q) ps) ≡ option_map (under q) (least_with held ps)
under_with q held [] = refl
under_with q held (p ∷ ps) = ap (λ h. least_with h (map (under q) ps)) (lesser_under q held p) ∙ under_with q (lesser held p) ps

least_under : (q : List ℕ) (ps : List (List ℕ)) → least (map (under q) ps) ≡ option_map (under q) (least ps)
least_under q ps = under_with q None ps

-- ---- the settings of an object stand behind its path

paths_append : (xs ys : List Setting) → setting_paths (xs ++ ys) ≡ setting_paths xs ++ setting_paths ys
paths_append [] ys = refl
paths_append (x ∷ xs) ys = ap (λ r. x.path ∷ r) (paths_append xs ys)

map_join : (f : List ℕ → List ℕ) (xs ys : List (List ℕ)) → map f (xs ++ ys) ≡ map f xs ++ map f ys
map_join f [] ys = refl
map_join f (x ∷ xs) ys = ap (λ r. f x ∷ r) (map_join f xs ys)

mutual
  flat_under : (q s : List ℕ) (d : Data) → setting_paths (flat (Some (under q s)) d) ≡ map (under q) (setting_paths (flat (Some s) d))
  flat_under q s null = refl
  flat_under q s (boolean b) = refl
  flat_under q s (number n) = refl
  flat_under q s (string t) = refl
  flat_under q s (array ds) = refl
  flat_under q s (object ms) = members_under q s ms

  members_under : (q s : List ℕ) (ms : Members) → setting_paths (flat_members (Some (under q s)) ms) ≡ map (under q) (setting_paths (flat_members (Some s) ms))
  members_under q s no_members = refl
  members_under q s (member t d ms) =
      paths_append (flat (Some (under (under q s) t)) d) (flat_members (Some (under q s)) ms)
      ∙ (ap₂ (λ xs ys. xs ++ ys) (subst (λ p. setting_paths (flat (Some p) d) ≡ map (under q) (setting_paths (flat (Some (under s t)) d))) (sym (append_assoc q (46 ∷ s) (46 ∷ t))) (flat_under q (under s t) d)) (members_under q s ms)
      ∙ (sym (map_join (under q) (setting_paths (flat (Some (under s t)) d)) (setting_paths (flat_members (Some s) ms)))
      ∙ ap (map (under q)) (sym (paths_append (flat (Some (under s t)) d) (flat_members (Some s) ms)))))

top_under : (q : List ℕ) (ms : Members) → setting_paths (flat_members (Some q) ms) ≡ map (under q) (setting_paths (flat_members None ms))
top_under q no_members = refl
top_under q (member t d ms) =
    paths_append (flat (Some (under q t)) d) (flat_members (Some q) ms)
    ∙ (ap₂ (λ xs ys. xs ++ ys) (flat_under q t d) (top_under q ms)
    ∙ (sym (map_join (under q) (setting_paths (flat (Some t) d)) (setting_paths (flat_members None ms)))
    ∙ ap (map (under q)) (sym (paths_append (flat (Some t) d) (flat_members None ms)))))

-- so the least of them is that below the value, behind its path
pub least_there : (q : List ℕ) (ms : Members) (rest : Option (List ℕ)) → rest ≡ least (setting_paths (flat_members None ms)) → option_map (under q) rest ≡ least (setting_paths (flat_members (Some q) ms))
least_there q ms rest is = ap (option_map (under q)) is ∙ (sym (least_under q (setting_paths (flat_members None ms))) ∙ ap least (sym (top_under q ms)))

-- one member further
pub among_step : (held next all : Option (List ℕ)) (s : List ℕ) (d : Data) (left rest : Members) → left ≡ member s d rest → next ≡ least_with held (setting_paths (flat (Some s) d)) → least_with held (setting_paths (flat_members None left)) ≡ all → least_with next (setting_paths (flat_members None rest)) ≡ all
among_step held next all s d left rest opens ok inv =
    ap (λ h. least_with h (setting_paths (flat_members None rest))) ok
    ∙ (sym (least_with_append held (setting_paths (flat (Some s) d)) (setting_paths (flat_members None rest)))
    ∙ (ap (least_with held) (sym (paths_append (flat (Some s) d) (flat_members None rest)))
    ∙ (ap (λ ms. least_with held (setting_paths (flat_members None ms))) (sym opens) ∙ inv)))

-- ---- no setting has a path as long as theirs

other_length : (p q : List ℕ) → length q < length p → bytes_eq p q ≡ false
other_length p q long = go (bytes_eq p q) refl
  where
    go : (v : Bool) → bytes_eq p q ≡ v → bytes_eq p q ≡ false
    go false is = is
    go true is = let size = ap length ((bytes_eq-Decides p q).0 is) in absurd (omega (arith, size, long))

-- the length of the longest name
abbrev longest_name : ℕ
longest_name = 18

no_name : (p : List ℕ) → longest_name < length p → is_among p key_names ≡ false
no_name p long =
    rw (
      other_length p (codes "mode") (omega (arith, long)),
      other_length p (codes "routing_path") (omega (arith, long)),
      other_length p (codes "number_of_shards") (omega (arith, long)),
      other_length p (codes "look_back_time") (omega (arith, long)),
      other_length p (codes "look_ahead_time") (omega (arith, long)),
      other_length p (codes "number_of_replicas") (omega (arith, long)),
    ) refl

long_unknown : (p : List ℕ) → longest_setting < length p → is_known p ≡ false
unfolding is_known
long_unknown p long = no_name (short_path p) (go (bytes_eq (take 6 p) (codes "index.")))
  where
    go : (v : Bool) → longest_name < length (if v then drop 6 p else p)
    go true = omega (arith, long, length-drop 6 p)
    go false = omega (arith, long)

-- by their paths alone
unknown_paths : (settings : List Setting) → all_faults unknown_setting settings ≡ all_faults (λ p. fault_unless (is_known p) (under (codes "template.settings") p)) (setting_paths settings)
unknown_paths [] = refl
unknown_paths (s ∷ settings) = ap (λ r. unknown_setting s ++ r) (unknown_paths settings)

all_unknown : (q : List ℕ) → longest_setting ≤ length q → (ps : List (List ℕ)) → all_faults (λ p. fault_unless (is_known p) (under (codes "template.settings") p)) (map (under q) ps) ≡ map (under (codes "template.settings")) (map (under q) ps)
all_unknown q long [] = refl
all_unknown q long (p ∷ ps) =
    ap₂ (λ b r. fault_unless b (under (codes "template.settings") (under q p)) ++ r)
    (long_unknown (under q p) (omega (arith, long, length-append q (46 ∷ p)))) (all_unknown q long ps)

deep_faults : (q : List ℕ) (ms : Members) → longest_setting ≤ length q
    → all_faults unknown_setting (flat_members (Some q) ms) ≡ map (under (codes "template.settings")) (map (under q) (setting_paths (flat_members None ms)))
deep_faults q ms long =
    unknown_paths (flat_members (Some q) ms)
    ∙ (ap (all_faults (λ p. fault_unless (is_known p) (under (codes "template.settings") p))) (top_under q ms)
    ∙ all_unknown q long (setting_paths (flat_members None ms)))

least_deep : (q : List ℕ) (ms : Members) → longest_setting ≤ length q
    → least (all_faults unknown_setting (flat_members (Some q) ms)) ≡ option_map (under (codes "template.settings")) (option_map (under q) (least (setting_paths (flat_members None ms))))
least_deep q ms long =
    ap least (deep_faults q ms long)
    ∙ (least_under (codes "template.settings") (map (under q) (setting_paths (flat_members None ms)))
    ∙ ap (option_map (under (codes "template.settings"))) (least_under q (setting_paths (flat_members None ms))))

-- the least of the unknown settings below a long path is put to what is held, or there is none
pub deep_put : (held next : Option (List ℕ)) (q rest : List ℕ) (ms : Members) → longest_setting ≤ length q → Some rest ≡ least (setting_paths (flat_members None ms))
    → next ≡ lesser held (under (codes "template.settings") (under q rest)) → next ≡ least_with held (all_faults unknown_setting (flat_members (Some q) ms))
deep_put held next q rest ms long one is =
    put_joined held next (all_faults unknown_setting (flat_members (Some q) ms)) (under (codes "template.settings") (under q rest))
    (least_deep q ms long ∙ ap (λ o. option_map (under (codes "template.settings")) (option_map (under q) o)) (sym one)) is

pub deep_none : (held : Option (List ℕ)) (q : List ℕ) (ms : Members) → longest_setting ≤ length q → None ≡ least (setting_paths (flat_members None ms))
    → held ≡ least_with held (all_faults unknown_setting (flat_members (Some q) ms))
deep_none held q ms long one =
    none_joined held (all_faults unknown_setting (flat_members (Some q) ms))
    (least_deep q ms long ∙ ap (λ o. option_map (under (codes "template.settings")) (option_map (under q) o)) (sym one))
