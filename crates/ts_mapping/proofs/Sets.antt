-- Sets of paths, and tests that only ask which paths are among some.
use Rattle.std.proofs.Common.{◌≡◌, ◌<◌, ◌+◌, ℕ, suc, List, [], ◌∷◌, ◌++◌, Bool, true, false, ◌||◌, ◌&&◌, not, bytes_eq, Ordering, Less, Equal, Greater, drop, length, get_or, add-one, drop-cons, Option, Some, None, if◌then◌else◌, nat_le, refl, sym, ap, ap₂, ◌∙◌}
use Rattle.std.specs.BTreeMap.{is_at}
use Rattle.std.specs.BTreeSet.{insert_key}
use Rattle.std.specs.Cmp.Lexicographic.{slice_cmp}
use Rattle.std.specs.List.{list_any}
use Rattle.std.specs.Ordering.{nat_cmp, match_ordering}
use Rattle.std.proofs.lemmas.Map.Text.{is_eq-slice_cmp}
use Rattle.row_cells.specs.declared.schemas.Field.{Field}
use Rattle.std.proofs.lemmas.Bool.{both_ways}
use Rattle.std.proofs.lemmas.Map.Lookups.{exact_bytes}
use Rattle.ts_mapping.specs.Faults.{bad_entries, below_fault, clash_faults, entry_faults, repeated}
use Rattle.ts_mapping.specs.Fields.{is_dimension_role, paths_of, routing_from}
use Rattle.ts_mapping.specs.Least.{all_faults, fault_unless, least, least_with}
use Rattle.ts_mapping.proofs.LeastLemmas.{least_with_append}
use Rattle.ts_mapping.specs.PathLaws.{any_in, in_any}
use Rattle.ts_mapping.specs.Paths.{is_among, is_below, timestamp}
use Rattle.ts_mapping.specs.Properties.{Property}

-- ---- the keys of a set

pub has_key : (q : List ℕ) (ks : List (List ℕ)) → list_any (is_at (slice_cmp nat_cmp q)) ks ≡ is_among q ks
has_key q [] = refl
has_key q (k ∷ ks) = ap₂ (λ a b. a || b) (is_eq-slice_cmp q k) (has_key q ks)

pub twice : (a b : Bool) → (a || b) ≡ (a || (a || b))
twice true b = refl
twice false b = refl

pub swap : (a b c : Bool) → (a || (b || c)) ≡ (b || (a || c))
swap true true c = refl
swap true false c = refl
swap false true c = refl
swap false false c = refl

has_placed : (q k x : List ℕ) (xs : List (List ℕ)) (o : Ordering) → slice_cmp nat_cmp k x ≡ o
    → is_among q (insert_key (slice_cmp nat_cmp) xs k) ≡ bytes_eq q k || is_among q xs
    → is_among q (match_ordering o (k ∷ x ∷ xs) (x ∷ xs) (x ∷ insert_key (slice_cmp nat_cmp) xs k)) ≡ bytes_eq q k || is_among q (x ∷ xs)
has_placed q k x xs Less is later = refl
has_placed q k x xs Equal is later = rw (exact_bytes k x is) (twice (bytes_eq q x) (is_among q xs))
has_placed q k x xs Greater is later = ap (λ b. bytes_eq q x || b) later ∙ swap (bytes_eq q x) (bytes_eq q k) (is_among q xs)

-- what is among the paths after one is put to them
pub has_inserted : (q k : List ℕ) (ks : List (List ℕ)) → is_among q (insert_key (slice_cmp nat_cmp) ks k) ≡ bytes_eq q k || is_among q ks
has_inserted q k [] = refl
has_inserted q k (x ∷ xs) = has_placed q k x xs _ refl (has_inserted q k xs)

-- two lists with the same paths
abbrev pub SamePaths : List (List ℕ) → List (List ℕ) → Type 0
SamePaths ps qs = (q : List ℕ) → is_among q ps ≡ is_among q qs

-- pass a test alike
pub any_same : (f : List ℕ → Bool) (ps qs : List (List ℕ)) → SamePaths ps qs → list_any f ps ≡ list_any f qs
any_same f ps qs same = go (list_any f ps) (list_any f qs) refl refl
  where
    go : (a b : Bool) → list_any f ps ≡ a → list_any f qs ≡ b → list_any f ps ≡ list_any f qs
    go true true p q = p ∙ sym q
    go false false p q = p ∙ sym q
    go true false p q = let one = any_in f ps p in absurd (both_ways (list_any f qs) q (in_any f one.path qs (sym (same one.path) ∙ one.among) one.pass))
    go false true p q = let one = any_in f qs q in absurd (both_ways (list_any f ps) p (in_any f one.path ps (same one.path ∙ one.among) one.pass))

-- ---- looks that only ask which paths stand before

pub same_more : (p : List ℕ) (ps qs : List (List ℕ)) → SamePaths ps qs → SamePaths (p ∷ ps) (p ∷ qs)
same_more p ps qs same q = ap (λ b. bytes_eq q p || b) (same q)

pub repeated_same : (before after : List (List ℕ)) → SamePaths before after → (ps : List (List ℕ)) → repeated before ps ≡ repeated after ps
repeated_same before after same [] = refl
repeated_same before after same (p ∷ ps) =
    ap₂ (λ b rest. fault_unless (not b) p ++ rest) (same p) (repeated_same (p ∷ before) (p ∷ after) (same_more p before after same) ps)

pub entries_same : (dimensions dims before after : List (List ℕ)) → SamePaths dimensions dims → SamePaths before after → (es : List (List ℕ)) → bad_entries dimensions before es ≡ bad_entries dims after es
entries_same dimensions dims before after some same [] = refl
entries_same dimensions dims before after some same (e ∷ es) =
    ap₂ (λ b rest. fault_unless b e ++ rest) (ap₂ (λ a b. a && not b) (some e) (same e)) (entries_same dimensions dims (e ∷ before) (e ∷ after) some (same_more e before after same) es)

-- one path further
pub repeated_step : (p : List ℕ) (before after rest : List (List ℕ)) (held next : Option (List ℕ)) → SamePaths after (p ∷ before) → next ≡ least_with held (fault_unless (not (is_among p before)) p) → least_with next (repeated after rest) ≡ least_with held (repeated before (p ∷ rest))
repeated_step p before after rest held next same ok =
    rw (repeated_same after (p ∷ before) same rest, ok, least_with_append) refl

pub entries_step : (dimensions : List (List ℕ)) (e : List ℕ) (before after rest : List (List ℕ)) (held next : Option (List ℕ)) → SamePaths after (e ∷ before) → next ≡ least_with held (fault_unless (is_among e dimensions && not (is_among e before)) e) → least_with next (bad_entries dimensions after rest) ≡ least_with held (bad_entries dimensions before (e ∷ rest))
entries_step dimensions e before after rest held next same ok =
    rw (entries_same dimensions dimensions after (e ∷ before) (λ q. refl) same rest, ok, least_with_append) refl

or_next : (a b c : Bool) → ((a || b) || c) ≡ (b || (a || c))
or_next true true c = refl
or_next true false c = refl
or_next false true c = refl
or_next false false c = refl

pub among_step : (q p : List ℕ) (before after rest : List (List ℕ)) → is_among q after ≡ is_among q (p ∷ before) → (is_among q after || is_among q rest) ≡ (is_among q before || is_among q (p ∷ rest))
among_step q p before after rest same = rw same (or_next (bytes_eq q p) (is_among q before) (is_among q rest))

-- what is left of a list begins with the element at hand
pub drop_here : {S : Type 0} (xs : List S) (i : ℕ) (x : S) → i < length xs → x ≡ get_or xs i x → drop i xs ≡ x ∷ drop (i + 1) xs
drop_here xs i x lt is = rw (add-one, drop-cons xs i x, ← is) refl

pub below_same : (before after : List (List ℕ)) → SamePaths before after → (ps : List (List ℕ)) → all_faults (below_fault before) ps ≡ all_faults (below_fault after) ps
below_same before after same [] = refl
below_same before after same (p ∷ ps) = ap₂ (λ b rest. fault_unless (not b) p ++ rest) (any_same (is_below p) before after same) (below_same before after same ps)

pub routing_same : (ps qs : List (List ℕ)) → SamePaths ps qs → (place : ℕ) (fs : List Field) → routing_from (Some ps) place fs ≡ routing_from (Some qs) place fs
routing_same ps qs same place [] = refl
routing_same ps qs same place (f ∷ fs) =
    ap₂ (λ b rest. (if is_dimension_role f.role && b then place ∷ [] else []) ++ rest) (same f.path) (routing_same ps qs same (suc place) fs)

-- ---- whole looks

pub clash_is : (ps : List Property) (before set : List (List ℕ)) (held found : Option (List ℕ)) → held ≡ least_with None (repeated [] (paths_of ps)) → found ≡ least_with held (all_faults (below_fault set) (paths_of ps)) → SamePaths set (timestamp ∷ before) → SamePaths before (paths_of ps) → found ≡ least (clash_faults ps)
unfolding clash_faults
clash_is ps before set held found first second put all =
    let qs = paths_of ps in
    let same : SamePaths set (timestamp ∷ qs) = λ q. put q ∙ ap (λ b. bytes_eq q timestamp || b) (all q) in
    second ∙ (ap (λ h. least_with h (all_faults (below_fault set) qs)) first
    ∙ (ap (least_with (least_with None (repeated [] qs))) (below_same set (timestamp ∷ qs) same qs)
    ∙ sym (least_with_append None (repeated [] qs) (all_faults (below_fault (timestamp ∷ qs)) qs))))

pub entries_are : (dimensions set es : List (List ℕ)) (held found : Option (List ℕ)) → held ≡ least_with None (fault_unless (nat_le 1 (length es)) []) → found ≡ least_with held (bad_entries set [] es) → SamePaths set dimensions → found ≡ least (entry_faults dimensions (Some es))
entries_are dimensions set es held found first second same =
    let none = fault_unless (nat_le 1 (length es)) [] in
    second ∙ (ap (λ h. least_with h (bad_entries set [] es)) first
    ∙ (ap (least_with (least_with None none)) (entries_same set dimensions [] [] same (λ q. refl) es)
    ∙ sym (least_with_append None none (bad_entries dimensions [] es))))
