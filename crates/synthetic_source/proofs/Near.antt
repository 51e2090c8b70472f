-- Fields above and below a path.
use Rattle.std.proofs.Common.{◌≡◌, ◌≢◌, ◌⊎◌, inl, inr, ℕ, zero, suc, ◌+◌, ◌<◌, ◌≤◌, min, List, [], ◌∷◌, length, take, drop, get_or, Bool, true, false, cond, ◌&&◌, ◌||◌, nat_eq, nat_lt, bytes_eq, refl, sym, ap, ◌∙◌, subst, arith, le-leb, eq-eqb, ltb-true, ltb-false, eqb-true}
use Rattle.std.specs.List.{list_any}
use Rattle.std.specs.Option.{is_some}
use Rattle.std.specs.Cmp.Lexicographic.{slice_cmp}
use Rattle.std.specs.Ordering.{nat_cmp, match_ordering, is_eq, ordering_then, MatchOrdering}
use Rattle.std.specs.Cmp.{ranks}
use Rattle.std.specs.declared.cmp.Ordering.{Ordering}
use Rattle.std.specs.declared.cmp.Ordering.TheVariants.{Less, Equal, Greater}
use Rattle.std.proofs.lemmas.Map.Lookups.{exact_bytes}
use Rattle.row_cells.specs.declared.schemas.Field.{Field}
use Rattle.row_cells.specs.Dimensions.{IsBefore}
use Rattle.row_cells.specs.JoinLaws.{before_chain, before_of_after}
use Rattle.row_cells.specs.WidenLaws.{apart, other_bytes, same_bytes}
use Rattle.ts_mapping.specs.Paths.{is_among, is_below}
use Rattle.synthetic_source.specs.Faults.{near}
use Rattle.synthetic_source.specs.Gathered.{paths_of}
use Rattle.synthetic_source.specs.Places.{RiseAfter, Rise, later_place, place_among, found_among, found_if}
use Rattle.synthetic_source.specs.Sides.{side, side_by}
use Rattle.std.proofs.lemmas.Bool.{cases_eq}
use Rattle.synthetic_source.proofs.Search.{same_element, at_before}

-- ---- sides

pub data Bytes (b c : ℕ) : Type 0 where
  below : b < c → Bytes b c
  same : b ≡ c → Bytes b c
  above : c < b → Bytes b c

pub bytes_are : (b c : ℕ) → Bytes b c
bytes_are zero zero = same refl
bytes_are zero (suc c) = below (omega arith)
bytes_are (suc b) zero = above (omega arith)
bytes_are (suc b) (suc c) = go (bytes_are b c)
  where
    go : Bytes b c → Bytes (suc b) (suc c)
    go (below lt) = below (omega arith)
    go (same e) = same (ap suc e)
    go (above lt) = above (omega arith)

lt_false : (b c : ℕ) → (b < c → ⊥) → nat_lt b c ≡ false
lt_false b c never = go (nat_lt b c) refl
  where
    go : (v : Bool) → nat_lt b c ≡ v → v ≡ false
    go true is = absurd (never (ltb-true b c is))
    go false is = refl

pub by_below : (b c : ℕ) (o : Ordering) → b < c → side_by b c o ≡ Less
by_below b c o lt = ap (λ v. cond v Less (cond (nat_lt c b) Greater o)) (le-leb (suc b) c lt)

pub by_same : (b c : ℕ) (o : Ordering) → b ≡ c → side_by b c o ≡ o
by_same b c o e = ap (λ v. cond v Less (cond (nat_lt c b) Greater o)) (lt_false b c (λ lt. omega arith)) ∙ ap (λ v. cond v Greater o) (lt_false c b (λ lt. omega arith))

pub by_above : (b c : ℕ) (o : Ordering) → c < b → side_by b c o ≡ Greater
by_above b c o lt = ap (λ v. cond v Less (cond (nat_lt c b) Greater o)) (lt_false b c (λ less. omega arith)) ∙ ap (λ v. cond v Greater o) (le-leb (suc c) b lt)

differ : (b c : ℕ) → (b ≡ c → ⊥) → nat_eq b c ≡ false
differ b c never = go (nat_eq b c) refl
  where
    go : (v : Bool) → nat_eq b c ≡ v → v ≡ false
    go true is = absurd (never (eqb-true b c is))
    go false is = refl

-- a path is below another where it is on neither side
pub below_side : (x p : List ℕ) → is_below x p ≡ is_eq (side x p)
below_side [] p = refl
below_side (b ∷ x) [] = go (bytes_are b 46)
  where
    go : Bytes b 46 → nat_eq b 46 ≡ is_eq (side_by b 46 Equal)
    go (below lt) = differ b 46 (λ e. omega arith) ∙ sym (ap is_eq (by_below b 46 Equal lt))
    go (same e) = eq-eqb b 46 e ∙ sym (ap is_eq (by_same b 46 Equal e))
    go (above lt) = differ b 46 (λ e. omega arith) ∙ sym (ap is_eq (by_above b 46 Equal lt))
below_side (b ∷ x) (c ∷ p) = go (bytes_are b c) (below_side x p)
  where
    go : Bytes b c → is_below x p ≡ is_eq (side x p) → (nat_eq b c && is_below x p) ≡ is_eq (side_by b c (side x p))
    go (below lt) later = ap (λ v. v && is_below x p) (differ b c (λ e. omega arith)) ∙ sym (ap is_eq (by_below b c (side x p) lt))
    go (same e) later = ap (λ v. v && is_below x p) (eq-eqb b c e) ∙ (later ∙ sym (ap is_eq (by_same b c (side x p) e)))
    go (above lt) later = ap (λ v. v && is_below x p) (differ b c (λ e. omega arith)) ∙ sym (ap is_eq (by_above b c (side x p) lt))

take_nothing : (n : ℕ) → take {A = ℕ} n [] ≡ []
take_nothing zero = refl
take_nothing (suc n) = refl

-- the side is told by the front as long as the other path, and else by what stands behind it
pub side_by_front : (x p : List ℕ) → side x p ≡ match_ordering (slice_cmp nat_cmp (take (min (length p) (length x)) x) p) Less (side (drop (length p) x) []) Greater
side_by_front [] [] = refl
side_by_front [] (c ∷ p) = ap (λ xs. match_ordering (slice_cmp nat_cmp xs (c ∷ p)) Less Less Greater) (sym (take_nothing (min (suc (length p)) 0)))
side_by_front (b ∷ x) [] = let none : 0 ≡ min 0 (suc (length x)) = omega arith in ap (λ n. match_ordering (slice_cmp nat_cmp (take n (b ∷ x)) []) Less (side (b ∷ x) []) Greater) none
side_by_front (b ∷ x) (c ∷ p) =
    go (nat_cmp b c) (ranks b c) (side_by_front x p)
    ∙ ap (λ n. match_ordering (slice_cmp nat_cmp (take n (b ∷ x)) (c ∷ p)) Less (side (drop (length p) x) []) Greater) one_more
  where
    one_more : suc (min (length p) (length x)) ≡ min (suc (length p)) (suc (length x))
    one_more = omega arith

    rest : Ordering → Ordering
    rest o = match_ordering o Less (side (drop (length p) x) []) Greater

    go : (o : Ordering) → MatchOrdering o (b < c) (b ≡ c) (c < b) → side x p ≡ rest (slice_cmp nat_cmp (take (min (length p) (length x)) x) p)
        → side_by b c (side x p) ≡ rest (ordering_then o (slice_cmp nat_cmp (take (min (length p) (length x)) x) p))
    go Less lt later = by_below b c (side x p) lt
    go Equal e later = by_same b c (side x p) e ∙ later
    go Greater lt later = by_above b c (side x p) lt

pub side_front : (x p front : List ℕ) (n : ℕ) (o : Ordering) → n ≡ min (length p) (length x) → front ≡ take n x → o ≡ slice_cmp nat_cmp front p → match_ordering o Less (side (drop (length p) x) []) Greater ≡ side x p
side_front x p front n o is_n is_front is_o =
    ap (λ q. match_ordering q Less (side (drop (length p) x) []) Greater) (is_o ∙ ap (λ f. slice_cmp nat_cmp f p) (is_front ∙ ap (λ m. take m x) is_n)) ∙ sym (side_by_front x p)

-- what a text before another is like
data Before (b : ℕ) (x : List ℕ) (c : ℕ) (y : List ℕ) : Type 0 where
  first : b < c → Before b x c y
  later : b ≡ c → IsBefore x y → Before b x c y

before_is : (b : ℕ) (x : List ℕ) (c : ℕ) (y : List ℕ) → IsBefore (b ∷ x) (c ∷ y) → Before b x c y
before_is b x c y before = go (nat_cmp b c) (ranks b c) before
  where
    go : (o : Ordering) → MatchOrdering o (b < c) (b ≡ c) (c < b) → ordering_then o (slice_cmp nat_cmp x y) ≡ Less → Before b x c y
    go Less lt before = first lt
    go Equal e before = later e before
    go Greater lt before = cc

-- a text before one that is before all is so too
pub side_less : (x y p : List ℕ) → IsBefore x y → side y p ≡ Less → side x p ≡ Less
side_less [] y p before less = refl
side_less (b ∷ x) [] p before less = cc
side_less (b ∷ x) (c ∷ y) [] before less = go (bytes_are c 46) (before_is b x c y before)
  where
    go : Bytes c 46 → Before b x c y → side_by b 46 Equal ≡ Less
    go (below lt) (first less) = by_below b 46 Equal (omega arith)
    go (below lt) (later e on) = by_below b 46 Equal (omega arith)
    go (same e) on = let bad : Equal ≡ Less = sym (by_same c 46 Equal e) ∙ less in cc
    go (above lt) on = let bad : Greater ≡ Less = sym (by_above c 46 Equal lt) ∙ less in cc
side_less (b ∷ x) (c ∷ y) (d ∷ p) before less = go (bytes_are c d) (before_is b x c y before) (side_less x y p)
  where
    go : Bytes c d → Before b x c y → (IsBefore x y → side y p ≡ Less → side x p ≡ Less) → side_by b d (side x p) ≡ Less
    go (below lt) (first less) rest = by_below b d (side x p) (omega arith)
    go (below lt) (later e on) rest = by_below b d (side x p) (omega arith)
    go (same e) (first lt) rest = by_below b d (side x p) (omega arith)
    go (same e) (later f on) rest = by_same b d (side x p) (f ∙ e) ∙ rest on (sym (by_same c d (side y p) e) ∙ less)
    go (above lt) on rest = let bad : Greater ≡ Less = sym (by_above c d (side y p) lt) ∙ less in cc

-- and one behind one that is behind all
pub side_greater : (x y p : List ℕ) → IsBefore x y → side x p ≡ Greater → side y p ≡ Greater
side_greater [] y p before greater = cc
side_greater (b ∷ x) [] p before greater = cc
side_greater (b ∷ x) (c ∷ y) [] before greater = go (bytes_are b 46) (before_is b x c y before)
  where
    go : Bytes b 46 → Before b x c y → side_by c 46 Equal ≡ Greater
    go (below lt) on = let bad : Less ≡ Greater = sym (by_below b 46 Equal lt) ∙ greater in cc
    go (same e) on = let bad : Equal ≡ Greater = sym (by_same b 46 Equal e) ∙ greater in cc
    go (above lt) (first less) = by_above c 46 Equal (omega arith)
    go (above lt) (later e on) = by_above c 46 Equal (omega arith)
side_greater (b ∷ x) (c ∷ y) (d ∷ p) before greater = go (bytes_are b d) (before_is b x c y before) (side_greater x y p)
  where
    go : Bytes b d → Before b x c y → (IsBefore x y → side x p ≡ Greater → side y p ≡ Greater) → side_by c d (side y p) ≡ Greater
    go (below lt) on rest = let bad : Less ≡ Greater = sym (by_below b d (side x p) lt) ∙ greater in cc
    go (same e) (first lt) rest = by_above c d (side y p) (omega arith)
    go (same e) (later f on) rest = by_same c d (side y p) (sym f ∙ e) ∙ rest on (sym (by_same b d (side x p) e) ∙ greater)
    go (above lt) (first less) rest = by_above c d (side y p) (omega arith)
    go (above lt) (later e on) rest = by_above c d (side y p) (omega arith)

-- ---- tests over fields

pub any_at : (f : Field → Bool) (fs : List Field) (k : ℕ) (d : Field) → k < length fs → f (get_or fs k d) ≡ true → list_any f fs ≡ true
any_at f [] k d lt is = absurd (omega arith)
any_at f (g ∷ gs) zero d lt is = ap (λ b. b || list_any f gs) is
any_at f (g ∷ gs) (suc k) d lt is = go (f g) (any_at f gs k d (omega arith) is)
  where
    go : (b : Bool) → list_any f gs ≡ true → (b || list_any f gs) ≡ true
    go true rest = refl
    go false rest = rest

pub none_of : (f : Field → Bool) (fs : List Field) → ((k : ℕ) (d : Field) → k < length fs → f (get_or fs k d) ≡ false) → list_any f fs ≡ false
none_of f [] none = refl
none_of f (g ∷ gs) none = ap (λ b. b || list_any f gs) (none 0 g (omega arith)) ∙ none_of f gs (λ k d lt. none (suc k) d (omega arith))

pub any_near : (p : List ℕ) (fs : List Field) → (list_any (λ f. is_below p f.path) fs || list_any (λ f. is_below f.path p) fs) ≡ list_any (λ f. near p f.path) fs
any_near p [] = refl
any_near p (f ∷ fs) = swap (is_below p f.path) (list_any (λ f. is_below p f.path) fs) (is_below f.path p) (list_any (λ f. is_below f.path p) fs) ∙ ap (λ b. near p f.path || b) (any_near p fs)
  where
    swap : (a b c d : Bool) → ((a || b) || (c || d)) ≡ ((a || c) || (b || d))
    swap true b c d = refl
    swap false true true d = refl
    swap false false true d = refl
    swap false true false d = refl
    swap false false false d = refl

pub any_paths : (f : List ℕ → Bool) (fs : List Field) → list_any f (paths_of fs) ≡ list_any (λ g. f g.path) fs
any_paths f [] = refl
any_paths f (g ∷ gs) = ap (λ b. f g.path || b) (any_paths f gs)

not_among : (p : List ℕ) (ps : List (List ℕ)) → RiseAfter p ps → is_among p ps ≡ false
not_among p [] rise = refl
not_among p (q ∷ qs) rise = ap (λ b. b || is_among p qs) (other_bytes p q (apart p q rise.0)) ∙ not_among p qs (weaker q qs rise.0 rise.1)
  where
    weaker : (q : List ℕ) (qs : List (List ℕ)) → IsBefore p q → RiseAfter q qs → RiseAfter p qs
    weaker q [] before rise = tt
    weaker q (r ∷ rs) before rise = (before_chain p q r before rise.0, rise.1)

pub is_there : (p : List ℕ) (ps : List (List ℕ)) → Rise ps → is_some (found_among p ps) ≡ is_among p ps
is_there p [] rise = refl
is_there p (q ∷ qs) rise = go (slice_cmp nat_cmp p q) refl (is_there p qs (tail q qs rise))
  where
    tail : (q : List ℕ) (qs : List (List ℕ)) → RiseAfter q qs → Rise qs
    tail q [] rise = tt
    tail q (r ∷ rs) rise = rise.1

    same_there : (b : Bool) (i j : ℕ) → is_some (found_if b i) ≡ is_some (found_if b j)
    same_there true i j = refl
    same_there false i j = refl

    go : (o : Ordering) → slice_cmp nat_cmp p q ≡ o → is_some (found_among p qs) ≡ is_among p qs
        → is_some (found_if (match_ordering o (record { at = 0; found = false }) (record { at = 0; found = true }) (later_place (place_among p qs))).found (match_ordering o (record { at = 0; found = false }) (record { at = 0; found = true }) (later_place (place_among p qs))).at) ≡ (bytes_eq p q || is_among p qs)
    go Less is rest = sym (not_among p (q ∷ qs) (is, rise))
    go Equal is rest = sym (ap (λ b. b || is_among p qs) (same_bytes p q (exact_bytes p q is)))
    go Greater is rest = same_there (place_among p qs).found (suc (place_among p qs).at) (place_among p qs).at ∙ (rest ∙ sym (ap (λ b. b || is_among p qs) (other_bytes p q (λ same. apart q p (before_of_after p q is) (sym same)))))

-- ---- a search among fields

abbrev path_of : Field → List ℕ
path_of f = f.path

pub sides_before : (p : List ℕ) (fs : List Field) (m : ℕ) (e : Field) → Rise (paths_of fs) → m < length fs → side (get_or fs m e).path p ≡ Less → (k : ℕ) (d : Field) → k < m + 1 → side (get_or fs k d).path p ≡ Less
sides_before p fs m e rise lt less k d le = go (cases_eq k m)
  where
    go : (k ≡ m) ⊎ (k ≢ m) → side (get_or fs k d).path p ≡ Less
    go (inl at_m) = subst (λ n. side (get_or fs n d).path p ≡ Less) (sym at_m) (subst (λ (x : Field). side x.path p ≡ Less) (same_element path_of fs m e d lt) less)
    go (inr other) = side_less (get_or fs k d).path (get_or fs m e).path p (at_before path_of fs k m d e rise (omega arith) lt) less

pub sides_after : (p : List ℕ) (fs : List Field) (m : ℕ) (e : Field) → Rise (paths_of fs) → side (get_or fs m e).path p ≡ Greater → (k : ℕ) (d : Field) → m ≤ k → k < length fs → side (get_or fs k d).path p ≡ Greater
sides_after p fs m e rise greater k d le lt = go (cases_eq k m)
  where
    go : (k ≡ m) ⊎ (k ≢ m) → side (get_or fs k d).path p ≡ Greater
    go (inl at_m) = subst (λ n. side (get_or fs n d).path p ≡ Greater) (sym at_m) (subst (λ (x : Field). side x.path p ≡ Greater) (same_element path_of fs m e d (omega arith)) greater)
    go (inr other) = side_greater (get_or fs m e).path (get_or fs k d).path p (at_before path_of fs m k e d rise (omega arith) lt) greater

pub off_below : (x p : List ℕ) (o : Ordering) → side x p ≡ o → is_eq o ≡ false → is_below x p ≡ false
off_below x p o is other = below_side x p ∙ (ap is_eq is ∙ other)

-- no field is below where each is on a side
pub none_beside : (p : List ℕ) (fs : List Field) (m : ℕ) → ((k : ℕ) (d : Field) → k < m → side (get_or fs k d).path p ≡ Less) → ((k : ℕ) (d : Field) → m ≤ k → k < length fs → side (get_or fs k d).path p ≡ Greater)
    → list_any (λ f. is_below f.path p) fs ≡ false
none_beside p fs m before after = none_of (λ f. is_below f.path p) fs (λ k d lt. by k d lt (nat_lt k m) refl)
  where
    by : (k : ℕ) (d : Field) → k < length fs → (b : Bool) → nat_lt k m ≡ b → is_below (get_or fs k d).path p ≡ false
    by k d lt true is = off_below (get_or fs k d).path p Less (before k d (ltb-true k m is)) refl
    by k d lt false is = off_below (get_or fs k d).path p Greater (after k d (ltb-false k m is) lt) refl
