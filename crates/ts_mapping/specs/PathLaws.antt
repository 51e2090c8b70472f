-- Paths below others, and tests that ask which paths are among some.
use Rattle.std.proofs.Common.{◌≡◌, ◌<◌, ◌≤◌, ℕ, zero, suc, List, [], ◌∷◌, Bool, true, false, ◌||◌, ◌&&◌, ◌==◌, not, bytes_eq, take, length, get_or, nat_le, refl, sym, ap, arith, subst}
use Rattle.std.specs.List.{list_any}
use Rattle.std.specs.Str.{IsUtf8, is_utf8}
use Rattle.std.proofs.lemmas.Slice.Eq.{bytes_eq-Decides}
use Rattle.std.proofs.lemmas.Bool.{both_ways, eq-eqb, eqb-true, leb-true, or_right}
use Rattle.std.proofs.lemmas.Str.{IsUtf8-from_is_utf8, is_utf8-from_IsUtf8}
use Rattle.row_cells.specs.Limits.{longest_path}
use Rattle.time_text.specs.ShapeLaws.{both_true, first_true, second_true}
use Rattle.ts_mapping.specs.Paths.{first_part, has_parts, has_path_form, is_among, is_below, is_field_path, reserved}

first_false : (a b : Bool) → (a || b) ≡ false → a ≡ false
first_false true b h = h
first_false false b h = refl

second_false : (a b : Bool) → (a || b) ≡ false → b ≡ false
second_false true b h = cc
second_false false b h = h

-- p lies below what stands before a dot in it
below_front : (p : List ℕ) (i : ℕ) → i < length p → get_or p i 0 ≡ 46 → is_below p (take i p) ≡ true
below_front [] i lt dot = absurd (omega (arith, lt))
below_front (b ∷ p) zero lt dot = eq-eqb b 46 dot
below_front (b ∷ p) (suc i) lt dot = both_true (b == b) (is_below p (take i p)) (eq-eqb b b refl) (below_front p i (omega (arith, lt)) dot)

-- what p lies below stands in it before a dot
record IsFront (p q : List ℕ) : Type 0 where
  short : length q < length p
  dot : get_or p (length q) 0 ≡ 46
  front : take (length q) p ≡ q

front_of_below : (p q : List ℕ) → is_below p q ≡ true → IsFront p q
front_of_below [] q h = cc
front_of_below (b ∷ p) [] h = record { short = omega arith; dot = eqb-true b 46 h; front = refl }
front_of_below (b ∷ p) (c ∷ q) h =
    let later = front_of_below p q (second_true (b == c) (is_below p q) h) in
    let same : b ≡ c = eqb-true b c (first_true (b == c) (is_below p q) h) in
    record { short = omega (arith, later.short); dot = later.dot; front = rw (same, later.front) refl }

pub itself : (p : List ℕ) → bytes_eq p p ≡ true
itself p = (bytes_eq-Decides p p).1 refl

pub exact : (p q : List ℕ) → bytes_eq p q ≡ true → p ≡ q
exact p q h = (bytes_eq-Decides p q).0 h

-- a test that one of some paths passes
pub in_any : (f : List ℕ → Bool) (q : List ℕ) (ps : List (List ℕ)) → is_among q ps ≡ true → f q ≡ true → list_any f ps ≡ true
in_any f q [] is pass = cc
in_any f q (p ∷ ps) is pass = go (bytes_eq q p) refl is (in_any f q ps)
  where
    go : (v : Bool) → bytes_eq q p ≡ v → (v || is_among q ps) ≡ true → (is_among q ps ≡ true → f q ≡ true → list_any f ps ≡ true) → (f p || list_any f ps) ≡ true
    go true same h later = let one : f p ≡ true = subst (λ r. f r ≡ true) (exact q p same) pass in rw one refl
    go false same h later = or_right (f p) (list_any f ps) (later h pass)

pub record Passes (f : List ℕ → Bool) (ps : List (List ℕ)) : Type 0 where
  pub path : List ℕ
  pub among : is_among path ps ≡ true
  pub pass : f path ≡ true

pub any_in : (f : List ℕ → Bool) (ps : List (List ℕ)) → list_any f ps ≡ true → Passes f ps
any_in f [] h = cc
any_in f (p ∷ ps) h = go (f p) refl h (any_in f ps)
  where
    go : (v : Bool) → f p ≡ v → (v || list_any f ps) ≡ true → (list_any f ps ≡ true → Passes f ps) → Passes f (p ∷ ps)
    go true is h later = record { path = p; among = rw (itself p) refl; pass = is }
    go false is h later =
        let one = later h in
        record { path = one.path; among = or_right (bytes_eq one.path p) (is_among one.path ps) one.among; pass = one.pass }

-- a front before a dot that is among some paths lies above
pub some_below : (p : List ℕ) (i : ℕ) (ps : List (List ℕ)) → i < length p → get_or p i 0 ≡ 46 → is_among (take i p) ps ≡ true → list_any (is_below p) ps ≡ true
some_below p i ps lt dot is = in_any (is_below p) (take i p) ps is (below_front p i lt dot)

-- and where no such front is among them, nothing does
pub none_below : (p : List ℕ) (ps : List (List ℕ)) → ((k : ℕ) → k < length p → get_or p k 0 ≡ 46 → is_among (take k p) ps ≡ false) → list_any (is_below p) ps ≡ false
none_below p ps none = go (list_any (is_below p) ps) refl
  where
    go : (v : Bool) → list_any (is_below p) ps ≡ v → list_any (is_below p) ps ≡ false
    go false is = is
    go true is =
        let one = any_in (is_below p) ps is in
        let front = front_of_below p one.path one.pass in
        absurd (both_ways (is_among one.path ps) (subst (λ q. is_among q ps ≡ false) front.front (none (length one.path) front.short front.dot)) one.among)

-- what is known of a field's path
pub record IsTextPath (p : List ℕ) : Type 0 where
  pub text : IsUtf8 p
  pub short : length p ≤ longest_path
  pub parts : has_parts true p ≡ true

pub text_path : (p : List ℕ) → is_field_path p ≡ true → IsTextPath p
unfolding is_field_path has_path_form
text_path p is =
    let short = nat_le (length p) longest_path in
    let free = not (is_among (first_part p) reserved) in
    let rest = second_true (is_utf8 p) (short && (has_parts true p && free)) is in
    record {
      text = IsUtf8-from_is_utf8 p (first_true (is_utf8 p) (short && (has_parts true p && free)) is);
      short = leb-true (length p) longest_path (first_true short (has_parts true p && free) rest);
      parts = first_true (has_parts true p) free (second_true short (has_parts true p && free) rest);
    }

-- a text of the form is such a path, and no other
pub of_text : (p : List ℕ) → IsUtf8 p → has_path_form p ≡ is_field_path p
unfolding is_field_path
of_text p text = sym (ap (λ b. b && has_path_form p) (is_utf8-from_IsUtf8 p text))

-- a field's path isn't long
pub short_path : (p : List ℕ) → is_field_path p ≡ true → length p ≤ longest_path
short_path p is = (text_path p is).short
