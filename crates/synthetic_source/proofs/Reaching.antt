-- The leaves of an object that fields make level by level.
use Rattle.std.proofs.Common.{◌≡◌, ◌⊎◌, ℕ, zero, suc, ◌≤◌, List, [], ◌∷◌, ◌++◌, Bool, true, false, cond, nat_eq, bytes_eq, Option, Some, None, option_and_then, refl, sym, ap, ap₂, ◌∙◌, subst, inl, inr, arith, append_assoc, append-nil}
use Rattle.std.specs.BTreeSet.{insert_key}
use Rattle.std.specs.Cmp.Lexicographic.{slice_cmp}
use Rattle.std.specs.Ordering.{nat_cmp}
use Rattle.std.proofs.lemmas.Slice.Eq.{bytes_eq-Decides}
use Rattle.serde_json.specs.Data.{Data, null, boolean, number, string, array, object, Items, no_items, item, Members, no_members, member}
use Rattle.json_walk.specs.Path.{Path, end, text, behind_name, behind, below, is_stop}
use Rattle.json_walk.specs.PathLaws.{behind_both}
use Rattle.json_walk.specs.Leaves.{whole_object, given, at, at_members}
use Rattle.synthetic_source.specs.Levels.{Shown, first_name, names_after, names_of, value_at, with_rest, under, members_by, value_or, level, longest}
use Rattle.synthetic_source.specs.Places.{RiseAfter, Rise}
use Rattle.synthetic_source.proofs.Fuel.{longest_under}
use Rattle.synthetic_source.proofs.Grouping.{ArePlain, Lacks, lacks_inserted, lacks_later, names_plain, names_rise}
use Rattle.synthetic_source.proofs.Names.{Parted, whole, parted, parted_path, first_behind, same_nat, nats_same}
use Rattle.row_cells.specs.WidenLaws.{other_bytes, same_bytes}

-- a path that goes on behind a name is the name, a dot and what is left
goes_on : (s p r : List ℕ) → behind_name s p ≡ Some (text r) → p ≡ s ++ 46 ∷ r
goes_on [] [] r e = cc
goes_on [] (c ∷ t) r e = go (nat_eq 46 c) refl e
  where
    go : (v : Bool) → nat_eq 46 c ≡ v → cond v (Some (text t)) None ≡ Some (text r) → c ∷ t ≡ 46 ∷ r
    go true is e = let rest : t ≡ r = cc in ap₂ (λ x xs. x ∷ xs) (sym (nats_same 46 c is)) rest
    go false is e = cc
goes_on (x ∷ s) [] r e = cc
goes_on (x ∷ s) (c ∷ t) r e = go (nat_eq x c) refl e (goes_on s t r)
  where
    go : (v : Bool) → nat_eq x c ≡ v → cond v (behind_name s t) None ≡ Some (text r) → (behind_name s t ≡ Some (text r) → t ≡ s ++ 46 ∷ r) → c ∷ t ≡ x ∷ (s ++ 46 ∷ r)
    go true is e later = ap₂ (λ y ys. y ∷ ys) (sym (nats_same x c is)) (later e)
    go false is e later = cc

behind_on : (s r : List ℕ) → behind_name s (s ++ 46 ∷ r) ≡ Some (text r)
behind_on [] r = refl
behind_on (x ∷ s) r = ap (λ b. cond b (behind_name s (s ++ 46 ∷ r)) None) (same_nat x) ∙ behind_on s r

tails_same : (s q r : List ℕ) → s ++ 46 ∷ q ≡ s ++ 46 ∷ r → q ≡ r
tails_same s q r same =
    let both : Some (text q) ≡ Some (text r) = sym (behind_on s q) ∙ (ap (behind_name s) same ∙ behind_on s r) in
    cc

-- what is below a name, by whole paths
value_under : (s r : List ℕ) (es : List Shown) → value_at r (under s es) ≡ value_at (s ++ 46 ∷ r) es
value_under s r [] = refl
value_under s r (e ∷ es) = go (behind_name s e.path) refl (value_under s r es)
  where
    skip : (behind_name s e.path ≡ Some (text r) → ⊥) → bytes_eq (s ++ 46 ∷ r) e.path ≡ false
    skip other = other_bytes (s ++ 46 ∷ r) e.path (λ same. other (ap (behind_name s) (sym same) ∙ behind_on s r))

    go : (o : Option Path) → behind_name s e.path ≡ o → value_at r (under s es) ≡ value_at (s ++ 46 ∷ r) es → value_at r (with_rest o e.value (under s es)) ≡ value_at (s ++ 46 ∷ r) (e ∷ es)
    go None is later = later ∙ sym (ap (λ b. cond b (Some e.value) (value_at (s ++ 46 ∷ r) es)) (skip (λ on. let bad : None ≡ Some (text r) = sym is ∙ on in cc)))
    go (Some end) is later = later ∙ sym (ap (λ b. cond b (Some e.value) (value_at (s ++ 46 ∷ r) es)) (skip (λ on. let bad : Some end ≡ Some (text r) = sym is ∙ on in cc)))
    go (Some (text q)) is later = by (bytes_eq r q) refl
      where
        by : (v : Bool) → bytes_eq r q ≡ v → cond v (Some e.value) (value_at r (under s es)) ≡ cond (bytes_eq (s ++ 46 ∷ r) e.path) (Some e.value) (value_at (s ++ 46 ∷ r) es)
        by true same =
            let one = (bytes_eq-Decides r q).0 same in
            sym (ap (λ b. cond b (Some e.value) (value_at (s ++ 46 ∷ r) es)) (same_bytes (s ++ 46 ∷ r) e.path (ap (λ x. s ++ 46 ∷ x) one ∙ sym (goes_on s e.path q is))))
        by false differ =
            later ∙ sym (ap (λ b. cond b (Some e.value) (value_at (s ++ 46 ∷ r) es)) (other_bytes (s ++ 46 ∷ r) e.path (λ same. let bad : true ≡ false = sym (same_bytes r q (tails_same s r q (same ∙ goes_on s e.path q is))) ∙ differ in cc)))

under_under : (s t : List ℕ) (es : List Shown) → under t (under s es) ≡ under (s ++ 46 ∷ t) es
under_under s t [] = refl
under_under s t (e ∷ es) = go (behind_name s e.path) refl (under_under s t es)
  where
    go : (o : Option Path) → behind_name s e.path ≡ o → under t (under s es) ≡ under (s ++ 46 ∷ t) es → under t (with_rest o e.value (under s es)) ≡ with_rest (behind_name (s ++ 46 ∷ t) e.path) e.value (under (s ++ 46 ∷ t) es)
    go None is later = later ∙ sym (ap (λ o. with_rest o e.value (under (s ++ 46 ∷ t) es)) (behind_both s t e.path ∙ ap (option_and_then (behind t)) is))
    go (Some end) is later = later ∙ sym (ap (λ o. with_rest o e.value (under (s ++ 46 ∷ t) es)) (behind_both s t e.path ∙ ap (option_and_then (behind t)) is))
    go (Some (text q)) is later =
        ap (with_rest (behind_name t q) e.value) later ∙ sym (ap (λ o. with_rest o e.value (under (s ++ 46 ∷ t) es)) (behind_both s t e.path ∙ ap (option_and_then (behind t)) is))

-- no name of a level begins the path, so no field has it
pub none_at : (p : List ℕ) (ns : List (List ℕ)) (es : List Shown) → Lacks (first_name p) (names_after ns es) → Lacks (first_name p) ns × (value_at p es ≡ None)
none_at p ns [] lacks = (lacks, refl)
none_at p ns (e ∷ es) lacks =
    let rest = none_at p (insert_key (slice_cmp nat_cmp) ns (first_name e.path)) es lacks in
    let off = lacks_inserted (first_name p) (first_name e.path) ns rest.0 in
    (off.1, ap (λ b. cond b (Some e.value) (value_at p es)) (other_bytes p e.path (λ same. off.0 (ap first_name same))) ∙ rest.1)

-- ---- the leaves at a level

-- the leaves that a value is
abbrev pub items_list : Items → List Data
items_list no_items = []
items_list (item d ds) = d ∷ items_list ds

abbrev pub ends : Data → List Data
ends null = []
ends (boolean b) = boolean b ∷ []
ends (number n) = number n ∷ []
ends (string s) = string s ∷ []
ends (array ds) = items_list ds
ends (object ms) = object ms ∷ []

abbrev pub ends_of : Option Data → List Data
ends_of None = []
ends_of (Some d) = ends d

-- nothing lies below the value, and it has these leaves
pub record IsClosed (stops : List (List ℕ)) (here : List ℕ) (d : Data) : Type 0 where
  pub ends_are : at stops (Some here) d end ≡ ends d
  pub nothing : (r : List ℕ) → at stops (Some here) d (text r) ≡ []

pub record IsTidy (stops : List (List ℕ)) (here : Option (List ℕ)) (es : List Shown) : Type 0 where
  pub clear : (s : List ℕ) → (value_at s es ≡ None) ⊎ (under s es ≡ [])
  pub unstopped : (s : List ℕ) → (is_stop stops (Some (below here s)) ≡ false) ⊎ (under s es ≡ [])
  pub closed : (s : List ℕ) (d : Data) → value_at s es ≡ Some d → IsClosed stops (below here s) d

below_below : (here : Option (List ℕ)) (s t : List ℕ) → below (Some (below here s)) t ≡ below here (s ++ 46 ∷ t)
below_below None s t = refl
below_below (Some q) s t = append_assoc q (46 ∷ s) (46 ∷ t)

tidy_under : (stops : List (List ℕ)) (here : Option (List ℕ)) (es : List Shown) (s : List ℕ) → IsTidy stops here es → IsTidy stops (Some (below here s)) (under s es)
tidy_under stops here es s tidy = record {
  clear = λ t. elim (tidy.clear (s ++ 46 ∷ t)) [ inl none ↦ inl (value_under s t es ∙ none) | inr none ↦ inr (under_under s t es ∙ none) ];
  unstopped = λ t. elim (tidy.unstopped (s ++ 46 ∷ t)) [ inl plain ↦ inl (ap (λ q. is_stop stops (Some q)) (below_below here s t) ∙ plain) | inr none ↦ inr (under_under s t es ∙ none) ];
  closed = λ t d some. subst (λ q. IsClosed stops q d) (sym (below_below here s t)) (tidy.closed (s ++ 46 ∷ t) d (sym (value_under s t es) ∙ some));
}

pub at_other : (stops : List (List ℕ)) (here : Option (List ℕ)) (p : List ℕ) (f : List ℕ → Data) (ns : List (List ℕ)) → ArePlain ns → Lacks (first_name p) ns → at_members stops here (members_by f ns) (text p) ≡ []
at_other stops here p f [] plain lacks = refl
at_other stops here p f (t ∷ ts) plain lacks = go (behind_name t p) refl (at_other stops here p f ts plain.1 lacks.1)
  where
    go : (o : Option Path) → behind_name t p ≡ o → at_members stops here (members_by f ts) (text p) ≡ [] → given (λ r. at stops (Some (below here t)) (f t) r) (behind_name t p) ++ at_members stops here (members_by f ts) (text p) ≡ []
    go None is later = ap (λ o. given (λ r. at stops (Some (below here t)) (f t) r) o ++ at_members stops here (members_by f ts) (text p)) is ∙ later
    go (Some r) is later = absurd (lacks.0 (first_behind t p r plain.0 is))

-- some name is this one, or none is
pub has_or_lacks : (s : List ℕ) (ns : List (List ℕ)) → Rise ns → ArePlain ns → (Lacks s ns) ⊎ ((f : List ℕ → Data) (stops : List (List ℕ)) (here : Option (List ℕ)) (p : List ℕ) → first_name p ≡ s → at_members stops here (members_by f ns) (text p) ≡ given (λ r. at stops (Some (below here s)) (f s) r) (behind_name s p))
has_or_lacks s [] rise plain = inl tt
has_or_lacks s (t ∷ ts) rise plain = go (bytes_eq s t) refl (has_or_lacks s ts (tail t ts rise) plain.1)
  where
    tail : (t : List ℕ) (ts : List (List ℕ)) → RiseAfter t ts → Rise ts
    tail t [] rise = tt
    tail t (u ∷ us) rise = rise.1

    go : (v : Bool) → bytes_eq s t ≡ v
        → (Lacks s ts) ⊎ ((f : List ℕ → Data) (stops : List (List ℕ)) (here : Option (List ℕ)) (p : List ℕ) → first_name p ≡ s → at_members stops here (members_by f ts) (text p) ≡ given (λ r. at stops (Some (below here s)) (f s) r) (behind_name s p))
        → (Lacks s (t ∷ ts)) ⊎ ((f : List ℕ → Data) (stops : List (List ℕ)) (here : Option (List ℕ)) (p : List ℕ) → first_name p ≡ s → at_members stops here (members_by f (t ∷ ts)) (text p) ≡ given (λ r. at stops (Some (below here s)) (f s) r) (behind_name s p))
    go true same later =
        let one = (bytes_eq-Decides s t).0 same in
        inr (λ f stops here p first.
        let rest = at_other stops here p f ts plain.1 (subst (λ x. Lacks x ts) (sym (first ∙ one)) (lacks_later t ts rise)) in
        ap (λ xs. given (λ r. at stops (Some (below here t)) (f t) r) (behind_name t p) ++ xs) rest
        ∙ (append-nil _ ∙ ap (λ x. given (λ r. at stops (Some (below here x)) (f x) r) (behind_name x p)) (sym one)))
    go false differ later =
        let other : s ≡ t → ⊥ = λ same. let bad : true ≡ false = sym (same_bytes s t same) ∙ differ in cc in
        elim later [
          | inl lacks ↦ inl (other, lacks)
          | inr has ↦ inr (λ f stops here p first. skip f stops here p first (behind_name t p) refl (has f stops here p first))
        ]
      where
        skip : (f : List ℕ → Data) (stops : List (List ℕ)) (here : Option (List ℕ)) (p : List ℕ) → first_name p ≡ s → (o : Option Path) → behind_name t p ≡ o → at_members stops here (members_by f ts) (text p) ≡ given (λ r. at stops (Some (below here s)) (f s) r) (behind_name s p)
            → given (λ r. at stops (Some (below here t)) (f t) r) (behind_name t p) ++ at_members stops here (members_by f ts) (text p) ≡ given (λ r. at stops (Some (below here s)) (f s) r) (behind_name s p)
        skip f stops here p first None is later = ap (λ o. given (λ r. at stops (Some (below here t)) (f t) r) o ++ at_members stops here (members_by f ts) (text p)) is ∙ later
        skip f stops here p first (Some r) is later = let same : s ≡ t = sym first ∙ first_behind t p r plain.0 is in let bad : true ≡ false = sym (same_bytes s t same) ∙ differ in cc

members_at_end : (stops : List (List ℕ)) (here : Option (List ℕ)) (ms : Members) → at_members stops here ms end ≡ []
members_at_end stops here no_members = refl
members_at_end stops here (member s d ms) = members_at_end stops here ms

level_none : (n : ℕ) → level n [] ≡ no_members
level_none zero = refl
level_none (suc n) = refl

pub none_longest : (es : List Shown) → longest es ≤ 0 → es ≡ []
none_longest [] le = refl
none_longest (e ∷ es) le = absurd (omega arith)

-- an object of a level, where it stands
object_end : (stops : List (List ℕ)) (here : List ℕ) (n : ℕ) (es : List Shown) → (is_stop stops (Some here) ≡ false) ⊎ (es ≡ []) → at stops (Some here) (object (level n es)) end ≡ []
object_end stops here n es (inl plain) = ap (λ b. cond b (whole_object (level n es) end) (at_members stops (Some here) (level n es) end)) plain ∙ members_at_end stops (Some here) (level n es)
object_end stops here n es (inr none) = ap (λ ms. at stops (Some here) (object ms) end) (ap (level n) none ∙ level_none n) ∙ by (is_stop stops (Some here))
  where
    by : (b : Bool) → cond b (whole_object no_members end) (at_members stops (Some here) no_members end) ≡ []
    by true = refl
    by false = refl

object_below : (stops : List (List ℕ)) (here : List ℕ) (n : ℕ) (es : List Shown) (r : List ℕ) → (is_stop stops (Some here) ≡ false) ⊎ (es ≡ []) → at_members stops (Some here) (level n es) (text r) ≡ ends_of (value_at r es) → at stops (Some here) (object (level n es)) (text r) ≡ ends_of (value_at r es)
object_below stops here n es r (inl plain) later = ap (λ b. cond b (whole_object (level n es) (text r)) (at_members stops (Some here) (level n es) (text r))) plain ∙ later
object_below stops here n es r (inr none) later = ap (λ ms. at stops (Some here) (object ms) (text r)) (ap (level n) none ∙ level_none n) ∙ (by (is_stop stops (Some here)) ∙ sym (ap (λ xs. ends_of (value_at r xs)) none))
  where
    by : (b : Bool) → cond b (whole_object no_members (text r)) (at_members stops (Some here) no_members (text r)) ≡ []
    by true = refl
    by false = refl

-- the leaves at a path are those of the value of the field that has it
pub reached : (stops : List (List ℕ)) (n : ℕ) (here : Option (List ℕ)) (es : List Shown) (p : List ℕ) → longest es ≤ n → IsTidy stops here es → at_members stops here (level n es) (text p) ≡ ends_of (value_at p es)
reached stops zero here es p short tidy = sym (ap (λ xs. ends_of (value_at p xs)) (none_longest es short))
reached stops (suc m) here es p short tidy =
    elim (has_or_lacks (first_name p) (names_of es) (names_rise [] es tt) (names_plain [] es tt)) [
      | inl lacks ↦ at_other stops here p (λ s. value_or (value_at s es) (level m (under s es))) (names_of es) (names_plain [] es tt) lacks ∙ sym (ap ends_of (none_at p [] es lacks).1)
      | inr has ↦ has (λ s. value_or (value_at s es) (level m (under s es))) stops here p refl ∙ by_path (parted_path p) (λ r. reached stops m (Some (below here (first_name p))) (under (first_name p) es) r (longest_under (first_name p) es m short) (tidy_under stops here es (first_name p) tidy))
    ]
  where
    by_path : Parted p → ((r : List ℕ) → at_members stops (Some (below here (first_name p))) (level m (under (first_name p) es)) (text r) ≡ ends_of (value_at r (under (first_name p) es)))
        → given (λ r. at stops (Some (below here (first_name p))) (value_or (value_at (first_name p) es) (level m (under (first_name p) es))) r) (behind_name (first_name p) p) ≡ ends_of (value_at p es)
    by_path (whole behind same parts) later =
        ap (given (λ r. at stops (Some (below here (first_name p))) (value_or (value_at (first_name p) es) (level m (under (first_name p) es))) r)) behind
        ∙ (by_value (value_at (first_name p) es) refl ∙ ap (λ q. ends_of (value_at q es)) same)
      where
        by_value : (o : Option Data) → value_at (first_name p) es ≡ o → at stops (Some (below here (first_name p))) (value_or (value_at (first_name p) es) (level m (under (first_name p) es))) end ≡ ends_of (value_at (first_name p) es)
        by_value None is =
            ap (λ x. at stops (Some (below here (first_name p))) (value_or x (level m (under (first_name p) es))) end) is
            ∙ (object_end stops (below here (first_name p)) m (under (first_name p) es) (tidy.unstopped (first_name p)) ∙ sym (ap ends_of is))
        by_value (Some d) is =
            ap (λ x. at stops (Some (below here (first_name p))) (value_or x (level m (under (first_name p) es))) end) is
            ∙ ((tidy.closed (first_name p) d is).ends_are ∙ sym (ap ends_of is))
    by_path (parted r behind same parts) later =
        ap (given (λ r. at stops (Some (below here (first_name p))) (value_or (value_at (first_name p) es) (level m (under (first_name p) es))) r)) behind
        ∙ (by_value (value_at (first_name p) es) refl ∙ (ap ends_of (value_under (first_name p) r es) ∙ ap (λ q. ends_of (value_at q es)) (sym same)))
      where
        by_value : (o : Option Data) → value_at (first_name p) es ≡ o → at stops (Some (below here (first_name p))) (value_or (value_at (first_name p) es) (level m (under (first_name p) es))) (text r) ≡ ends_of (value_at r (under (first_name p) es))
        by_value None is =
            ap (λ x. at stops (Some (below here (first_name p))) (value_or x (level m (under (first_name p) es))) (text r)) is
            ∙ object_below stops (below here (first_name p)) m (under (first_name p) es) r (tidy.unstopped (first_name p)) (later r)
        by_value (Some d) is =
            ap (λ x. at stops (Some (below here (first_name p))) (value_or x (level m (under (first_name p) es))) (text r)) is
            ∙ ((tidy.closed (first_name p) d is).nothing r ∙ none_below (tidy.clear (first_name p)))
          where
            none_below : (value_at (first_name p) es ≡ None) ⊎ (under (first_name p) es ≡ []) → [] ≡ ends_of (value_at r (under (first_name p) es))
            none_below (inl none) = let bad : Some d ≡ None = sym is ∙ none in cc
            none_below (inr none) = sym (ap (λ xs. ends_of (value_at r xs)) none)
