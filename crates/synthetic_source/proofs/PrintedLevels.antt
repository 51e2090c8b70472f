-- The object of fields prints to a text that reads back, where the values do and the paths are short.
use Rattle.std.proofs.Common.{◌≡◌, ◌<◌, ◌≤◌, ◌+◌, ℕ, zero, suc, List, [], ◌∷◌, ◌++◌, length, take, drop, get_or, Bool, true, false, cond, nat_eq, bytes_eq, Option, Some, None, Ordering, Less, Equal, Greater, refl, sym, ap, ◌∙◌, subst, arith}
use Rattle.std.specs.BTreeSet.{insert_key}
use Rattle.std.specs.Cmp.Lexicographic.{slice_cmp}
use Rattle.std.specs.Ordering.{nat_cmp, match_ordering}
use Rattle.std.specs.Str.{IsUtf8}
use Rattle.std.proofs.lemmas.List.{length-append}
use Rattle.std.proofs.lemmas.Str.{IsUtf8-drop, IsUtf8-take, IsCharBoundary-before_ascii, IsCharBoundary-after_ascii}
use Rattle.std.proofs.lemmas.Slice.Eq.{bytes_eq-Decides}
use Rattle.serde_json.specs.Data.{Data, object, Members, depth, members_depth}
use Rattle.json_walk.specs.Path.{Path, end, text, behind_name}
use Rattle.synthetic_source.specs.Levels.{Shown, first_name, names_after, names_of, value_at, with_rest, under, members_by, value_or, level}
use Rattle.synthetic_source.specs.Places.{Rise}
use Rattle.synthetic_source.proofs.Printable.{names, IsPrintable, MembersPrintable}
use Rattle.synthetic_source.specs.Shallow.{parts_of}
use Rattle.synthetic_source.proofs.Grouping.{names_rise}
use Rattle.synthetic_source.proofs.Names.{Parted, whole, parted, parted_path, nats_same}

-- ---- texts cut at a dot

behind_is : (s p r : List ℕ) → behind_name s p ≡ Some (text r) → p ≡ s ++ 46 ∷ r
behind_is [] [] r e = cc
behind_is [] (c ∷ t) r e = go (nat_eq 46 c) refl e
  where
    go : (v : Bool) → nat_eq 46 c ≡ v → cond v (Some (text t)) None ≡ Some (text r) → c ∷ t ≡ 46 ∷ r
    go true is e = let rest : t ≡ r = cc in let dot : 46 ≡ c = nats_same 46 c is in cc
    go false is e = cc
behind_is (x ∷ s) [] r e = cc
behind_is (x ∷ s) (c ∷ t) r e = go (nat_eq x c) refl e (behind_is s t r)
  where
    go : (v : Bool) → nat_eq x c ≡ v → cond v (behind_name s t) None ≡ Some (text r) → (behind_name s t ≡ Some (text r) → t ≡ s ++ 46 ∷ r) → c ∷ t ≡ x ∷ (s ++ 46 ∷ r)
    go true is e later = let same : x ≡ c = nats_same x c is in let rest = later e in cc
    go false is e later = cc

dot_at : (s r : List ℕ) → get_or (s ++ 46 ∷ r) (length s) 0 ≡ 46
dot_at [] r = refl
dot_at (x ∷ s) r = dot_at s r

after_dot : (s r : List ℕ) → drop (suc (length s)) (s ++ 46 ∷ r) ≡ r
after_dot [] r = refl
after_dot (x ∷ s) r = after_dot s r

before_dot : (s r : List ℕ) → take (length s) (s ++ 46 ∷ r) ≡ s
before_dot [] r = refl
before_dot (x ∷ s) r = ap (λ t. x ∷ t) (before_dot s r)

dot_within : (s r : List ℕ) → length s < length (s ++ 46 ∷ r)
dot_within s r = omega (arith, length-append s (46 ∷ r))

front_utf8 : (s r : List ℕ) → IsUtf8 (s ++ 46 ∷ r) → IsUtf8 s
front_utf8 s r h = subst IsUtf8 (before_dot s r) (IsUtf8-take (s ++ 46 ∷ r) (length s) h (IsCharBoundary-before_ascii (s ++ 46 ∷ r) (length s) (dot_within s r) (omega (arith, dot_at s r))))

rest_utf8 : (s r : List ℕ) → IsUtf8 (s ++ 46 ∷ r) → IsUtf8 r
rest_utf8 s r h =
    let next : length s + 1 ≡ suc (length s) = omega arith in
    subst IsUtf8 (ap (λ n. drop n (s ++ 46 ∷ r)) next ∙ after_dot s r) (IsUtf8-drop (s ++ 46 ∷ r) (length s + 1) h (IsCharBoundary-after_ascii (s ++ 46 ∷ r) (length s) h (dot_within s r) (omega (arith, dot_at s r))))

first_utf8 : (p : List ℕ) → IsUtf8 p → IsUtf8 (first_name p)
first_utf8 p h = go (parted_path p)
  where
    go : Parted p → IsUtf8 (first_name p)
    go (whole behind same parts) = subst IsUtf8 (sym same) h
    go (parted r behind same parts) = front_utf8 (first_name p) r (subst IsUtf8 same h)

-- ---- values

-- paths in UTF-8, with values that print and read back
abbrev pub AreTexts : List Shown → Type 0
AreTexts [] = Unit {0}
AreTexts (e ∷ es) = IsUtf8 e.path × IsPrintable e.value × AreTexts es

under_texts : (s : List ℕ) (es : List Shown) → AreTexts es → AreTexts (under s es)
under_texts s [] h = tt
under_texts s (e ∷ es) h = go (behind_name s e.path) refl (under_texts s es h.2)
  where
    go : (o : Option Path) → behind_name s e.path ≡ o → AreTexts (under s es) → AreTexts (with_rest o e.value (under s es))
    go None is later = later
    go (Some end) is later = later
    go (Some (text r)) is later = (rest_utf8 s r (subst IsUtf8 (behind_is s e.path r is) h.0), h.1, later)

abbrev Utf8Names : List (List ℕ) → Type 0
Utf8Names [] = Unit {0}
Utf8Names (s ∷ ss) = IsUtf8 s × Utf8Names ss

insert_utf8 : (s : List ℕ) (ns : List (List ℕ)) → IsUtf8 s → Utf8Names ns → Utf8Names (insert_key (slice_cmp nat_cmp) ns s)
insert_utf8 s [] is all = (is, tt)
insert_utf8 s (t ∷ ts) is all = go (slice_cmp nat_cmp s t) (insert_utf8 s ts is all.1)
  where
    go : (o : Ordering) → Utf8Names (insert_key (slice_cmp nat_cmp) ts s) → Utf8Names (match_ordering o (s ∷ t ∷ ts) (t ∷ ts) (t ∷ insert_key (slice_cmp nat_cmp) ts s))
    go Less later = (is, all)
    go Equal later = all
    go Greater later = (all.0, later)

names_utf8 : (ns : List (List ℕ)) (es : List Shown) → Utf8Names ns → AreTexts es → Utf8Names (names_after ns es)
names_utf8 ns [] all h = all
names_utf8 ns (e ∷ es) all h = names_utf8 (insert_key (slice_cmp nat_cmp) ns (first_name e.path)) es (insert_utf8 (first_name e.path) ns (first_utf8 e.path h.0) all) h.2

names_by : (f : List ℕ → Data) (ns : List (List ℕ)) → names (members_by f ns) ≡ ns
names_by f [] = refl
names_by f (s ∷ ss) = ap (λ ts. s ∷ ts) (names_by f ss)

by_printable : (f : List ℕ → Data) (ns : List (List ℕ)) → Utf8Names ns → ((s : List ℕ) → IsPrintable (f s)) → MembersPrintable (members_by f ns)
by_printable f [] all h = tt
by_printable f (s ∷ ss) all h = (all.0, h s, by_printable f ss all.1 h)

value_printable : (s : List ℕ) (es : List Shown) (ms : Members) → AreTexts es → IsPrintable (object ms) → IsPrintable (value_or (value_at s es) ms)
value_printable s [] ms h rest = rest
value_printable s (e ∷ es) ms h rest = go (bytes_eq s e.path) (value_printable s es ms h.2 rest)
  where
    go : (v : Bool) → IsPrintable (value_or (value_at s es) ms) → IsPrintable (value_or (cond v (Some e.value) (value_at s es)) ms)
    go true later = h.1
    go false later = later

-- the object of a level prints and reads back
pub level_printable : (n : ℕ) (es : List Shown) → AreTexts es → IsPrintable (object (level n es))
level_printable zero es h = (tt, tt)
level_printable (suc n) es h =
    let f = λ (s : List ℕ). value_or (value_at s es) (level n (under s es)) in
    (subst Rise (sym (names_by f (names_of es))) (names_rise [] es tt), by_printable f (names_of es) (names_utf8 [] es tt h) (λ s. value_printable s es (level n (under s es)) h (level_printable n (under s es) (under_texts s es h))))

-- ---- depths

-- each path has at most so many parts and one, less the depth of its value
abbrev pub AreWithin : ℕ → List Shown → Type 0
AreWithin n [] = Unit {0}
AreWithin n (e ∷ es) = (parts_of e.path + depth e.value ≤ suc n) × AreWithin n es

some_parts : (p : List ℕ) → 1 ≤ parts_of p
some_parts [] = omega arith
some_parts (c ∷ t) = go (nat_eq 46 c) (some_parts t)
  where
    go : (v : Bool) → 1 ≤ parts_of t → 1 ≤ cond v (suc (parts_of t)) (parts_of t)
    go true later = omega arith
    go false later = later

more_parts : (c : ℕ) (t : List ℕ) → parts_of t ≤ parts_of (c ∷ t)
more_parts c t = go (nat_eq 46 c)
  where
    go : (v : Bool) → parts_of t ≤ cond v (suc (parts_of t)) (parts_of t)
    go true = omega arith
    go false = omega arith

-- what is left behind a name and a dot has fewer parts
rest_parts : (s p r : List ℕ) → behind_name s p ≡ Some (text r) → suc (parts_of r) ≤ parts_of p
rest_parts [] [] r e = cc
rest_parts [] (c ∷ t) r e = go (nat_eq 46 c) e
  where
    go : (v : Bool) → cond v (Some (text t)) None ≡ Some (text r) → suc (parts_of r) ≤ cond v (suc (parts_of t)) (parts_of t)
    go true e = let same : t ≡ r = cc in omega (arith, ap parts_of same)
    go false e = cc
rest_parts (x ∷ s) [] r e = cc
rest_parts (x ∷ s) (c ∷ t) r e = go (nat_eq x c) e (rest_parts s t r)
  where
    go : (v : Bool) → cond v (behind_name s t) None ≡ Some (text r) → (behind_name s t ≡ Some (text r) → suc (parts_of r) ≤ parts_of t) → suc (parts_of r) ≤ parts_of (c ∷ t)
    go true e later = let rest = later e in omega (arith, more_parts c t)
    go false e later = cc

under_within : (s : List ℕ) (n : ℕ) (es : List Shown) → AreWithin (suc n) es → AreWithin n (under s es)
under_within s n [] h = tt
under_within s n (e ∷ es) h = go (behind_name s e.path) refl (under_within s n es h.1)
  where
    go : (o : Option Path) → behind_name s e.path ≡ o → AreWithin n (under s es) → AreWithin n (with_rest o e.value (under s es))
    go None is later = later
    go (Some end) is later = later
    go (Some (text r)) is later = let fewer = rest_parts s e.path r is in (omega (arith, h.0), later)

abbrev Each : (List ℕ → Type 0) → List (List ℕ) → Type 0
Each P [] = Unit {0}
Each P (s ∷ ss) = P s × Each P ss

abbrev EachFirst : (List ℕ → Type 0) → List Shown → Type 0
EachFirst P [] = Unit {0}
EachFirst P (e ∷ es) = P (first_name e.path) × EachFirst P es

module _ (P : List ℕ → Type 0) where
  insert_each : (s : List ℕ) (ns : List (List ℕ)) → P s → Each P ns → Each P (insert_key (slice_cmp nat_cmp) ns s)
  insert_each s [] is all = (is, tt)
  insert_each s (t ∷ ts) is all = go (slice_cmp nat_cmp s t) (insert_each s ts is all.1)
    where
      go : (o : Ordering) → Each P (insert_key (slice_cmp nat_cmp) ts s) → Each P (match_ordering o (s ∷ t ∷ ts) (t ∷ ts) (t ∷ insert_key (slice_cmp nat_cmp) ts s))
      go Less later = (is, all)
      go Equal later = all
      go Greater later = (all.0, later)

  names_each : (ns : List (List ℕ)) (es : List Shown) → Each P ns → EachFirst P es → Each P (names_after ns es)
  names_each ns [] all h = all
  names_each ns (e ∷ es) all h = names_each (insert_key (slice_cmp nat_cmp) ns (first_name e.path)) es (insert_each (first_name e.path) ns h.0 all) h.1

each_of : (P : List ℕ → Type 0) (ns : List (List ℕ)) → ((s : List ℕ) → P s) → Each P ns
each_of P [] h = tt
each_of P (s ∷ ss) h = (h s, each_of P ss h)

each_weaker : (P Q : List ℕ → Type 0) (ns : List (List ℕ)) → ((s : List ℕ) → P s → Q s) → Each P ns → Each Q ns
each_weaker P Q [] f h = tt
each_weaker P Q (s ∷ ss) f h = (f s h.0, each_weaker P Q ss f h.1)

by_depth : (f : List ℕ → Data) (n : ℕ) (ns : List (List ℕ)) → Each (λ s. depth (f s) ≤ n) ns → members_depth (members_by f ns) ≤ n
by_depth f n [] h = omega arith
by_depth f n (s ∷ ss) h = let later = by_depth f n ss h.1 in let first = h.0 in omega arith

-- a value lies a level or more above the bound
value_depth : (n : ℕ) (s : List ℕ) (es : List Shown) (d : Data) → AreWithin n es → value_at s es ≡ Some d → depth d ≤ n
value_depth n s [] d h e = cc
value_depth n s (x ∷ es) d h e = go (bytes_eq s x.path) e (value_depth n s es d h.1)
  where
    go : (v : Bool) → cond v (Some x.value) (value_at s es) ≡ Some d → (value_at s es ≡ Some d → depth d ≤ n) → depth d ≤ n
    go true e later = let same : x.value ≡ d = cc in omega (arith, h.0, some_parts x.path, ap depth same)
    go false e later = later e

abbrev HasValue : List ℕ → List Shown → Type 0
HasValue s es = value_at s es ≡ None → ⊥

no_more_parts : (p : List ℕ) → parts_of p ≤ 1 → first_name p ≡ p
no_more_parts [] h = refl
no_more_parts (c ∷ t) h = go (nat_eq 46 c) h (no_more_parts t)
  where
    go : (v : Bool) → cond v (suc (parts_of t)) (parts_of t) ≤ 1 → (parts_of t ≤ 1 → first_name t ≡ t) → cond v [] (c ∷ first_name t) ≡ c ∷ t
    go true h later = absurd (omega (arith, some_parts t))
    go false h later = ap (λ u. c ∷ u) (later h)

value_here : (e : Shown) (es : List Shown) → HasValue e.path (e ∷ es)
value_here e es none = let same = (bytes_eq-Decides e.path e.path).1 refl in let found : Some e.value ≡ None = sym (ap (λ b. cond b (Some e.value) (value_at e.path es)) same) ∙ none in cc

value_later : (s : List ℕ) (e : Shown) (es : List Shown) → HasValue s es → HasValue s (e ∷ es)
value_later s e es has = go (bytes_eq s e.path)
  where
    go : (v : Bool) → cond v (Some e.value) (value_at s es) ≡ None → ⊥
    go true none = cc
    go false none = has none

-- where no path has a second part, each name is a path
first_values : (es all : List Shown) → ((s : List ℕ) → HasValue s es → HasValue s all) → AreWithin 0 es → EachFirst (λ s. HasValue s all) es
first_values [] all on h = tt
first_values (e ∷ es) all on h =
    let alone = no_more_parts e.path (omega (arith, h.0)) in
    (subst (λ s. HasValue s all) (sym alone) (on e.path (value_here e es)), first_values es all (λ s has. on s (value_later s e es has)) h.1)

-- the members of a level are no deeper than the bound
pub level_depth : (fuel n : ℕ) (es : List Shown) → AreWithin n es → members_depth (level fuel es) ≤ n
level_depth zero n es h = omega arith
level_depth (suc fuel) zero es h =
    by_depth (λ s. value_or (value_at s es) (level fuel (under s es))) 0 (names_of es)
    (each_weaker (λ s. HasValue s es) (λ s. depth (value_or (value_at s es) (level fuel (under s es))) ≤ 0) (names_of es) (λ s. at_value s (value_at s es) refl) (names_each (λ s. HasValue s es) [] es tt (first_values es es (λ s has. has) h)))
  where
    at_value : (s : List ℕ) (o : Option Data) → value_at s es ≡ o → (o ≡ None → ⊥) → depth (value_or o (level fuel (under s es))) ≤ 0
    at_value s None is has = absurd (has refl)
    at_value s (Some d) is has = value_depth 0 s es d h is
level_depth (suc fuel) (suc n) es h =
    by_depth (λ s. value_or (value_at s es) (level fuel (under s es))) (suc n) (names_of es)
    (each_of (λ s. depth (value_or (value_at s es) (level fuel (under s es))) ≤ suc n) (names_of es) (λ s. at_name s (value_at s es) refl (level_depth fuel n (under s es) (under_within s n es h))))
  where
    at_name : (s : List ℕ) (o : Option Data) → value_at s es ≡ o → members_depth (level fuel (under s es)) ≤ n → depth (value_or o (level fuel (under s es))) ≤ suc n
    at_name s None is below = omega arith
    at_name s (Some d) is below = value_depth (suc n) s es d h is
