-- What a walk lists at a path is what the path gathers.
use Rattle.std.proofs.Common.{◌≡◌, BTreeMap, String, Global, ℕ, List, [], ◌∷◌, ◌++◌, Bool, true, false, ◌&&◌, cond, nat_eq, bytes_eq, Option, Some, None, option_and_then, map, filter, refl, ap, ap₂, ◌∙◌}
use Rattle.serde_json.specs.Data.{Data, null, boolean, number, string, array, object, Items, no_items, item, Members, no_members, member}
use Rattle.serde_json.specs.View.{view, members_view}
use Rattle.serde_json.specs.declared.value.Value.{Value, Object}
use Rattle.serde_json.proofs.Views.{Entry, view-Object}
use Rattle.json_walk.specs.Path.{Path, end, text, behind_name, behind, below, is_stop}
use Rattle.json_walk.specs.PathLaws.{behind_both}
use Rattle.json_walk.specs.Leaves.{leaf, whole_object, given, at, at_items, at_members, leaves_of, placed_at, AreLeaves}
use Rattle.json_walk.specs.Listed.{placed, placed_object, listed, listed_items, listed_members}

abbrev pub left : Option (List ℕ) → List ℕ → Option Path
left None p = Some (text p)
left (Some q) p = behind_name q p

left-below : (here : Option (List ℕ)) (s p : List ℕ) → left (Some (below here s)) p ≡ option_and_then (behind s) (left here p)
left-below None s p = refl
left-below (Some q) s p = behind_both q s p

-- a leaf at q is at the path that q is
at_leaf : (d : Data) (q p : List ℕ) → placed_at p ((q, d) ∷ []) ≡ given (leaf d) (behind_name q p)
at_leaf d q p = alone (bytes_eq q p) ∙ same_leaf q p where
  alone : (v : Bool) → map (λ (e : List ℕ × Data). e.1) (cond v ((q, d) ∷ []) []) ≡ cond v (d ∷ []) []
  alone true = refl
  alone false = refl

  dot : (v : Bool) (t : List ℕ) → [] ≡ given (leaf d) (cond v (Some (text t)) None)
  dot true t = refl
  dot false t = refl

  same_head : (v : Bool) (r t : List ℕ) → cond (bytes_eq r t) (d ∷ []) [] ≡ given (leaf d) (behind_name r t)
      → cond (v && bytes_eq r t) (d ∷ []) [] ≡ given (leaf d) (cond v (behind_name r t) None)
  same_head true r t same = same
  same_head false r t same = refl

  same_leaf : (r t : List ℕ) → cond (bytes_eq r t) (d ∷ []) [] ≡ given (leaf d) (behind_name r t)
  same_leaf [] [] = refl
  same_leaf [] (c ∷ t) = dot (nat_eq 46 c) t
  same_leaf (x ∷ r) [] = refl
  same_leaf (x ∷ r) (c ∷ t) = same_head (nat_eq x c) r t (same_leaf r t)

placed_at-append : (p : List ℕ) (es fs : List (List ℕ × Data)) → placed_at p (es ++ fs) ≡ placed_at p es ++ placed_at p fs
placed_at-append p [] fs = refl
placed_at-append p (e ∷ es) fs = go (bytes_eq e.0 p) (placed_at-append p es fs) where
  go : (v : Bool) → placed_at p (es ++ fs) ≡ placed_at p es ++ placed_at p fs
      → map (λ (x : List ℕ × Data). x.1) (cond v (e ∷ filter (λ x. bytes_eq x.0 p) (es ++ fs)) (filter (λ x. bytes_eq x.0 p) (es ++ fs)))
      ≡ map (λ (x : List ℕ × Data). x.1) (cond v (e ∷ filter (λ x. bytes_eq x.0 p) es) (filter (λ x. bytes_eq x.0 p) es)) ++ placed_at p fs
  go true same = ap (λ xs. e.1 ∷ xs) same
  go false same = same

at_placed : (here : Option (List ℕ)) (d : Data) (p : List ℕ) → placed_at p (placed here d) ≡ given (leaf d) (left here p)
at_placed None d p = refl
at_placed (Some q) d p = at_leaf d q p

none_given : (o : Option Path) → [] ≡ given (λ p. []) o
none_given None = refl
none_given (Some p) = refl

given-append : (f g : Path → List Data) (o : Option Path) → given f o ++ given g o ≡ given (λ p. f p ++ g p) o
given-append f g None = refl
given-append f g (Some p) = refl

given-behind : (f : Path → List Data) (s : List ℕ) (o : Option Path) → given f (option_and_then (behind s) o) ≡ given (λ p. given f (behind s p)) o
given-behind f s None = refl
given-behind f s (Some p) = refl

at_whole : (here : Option (List ℕ)) (ms : Members) (p : List ℕ) → placed_at p (placed_object here ms) ≡ given (whole_object ms) (left here p)
at_whole here no_members p = none_given (left here p)
at_whole here (member k d ms) p = at_placed here (object (member k d ms)) p

by_stop : (v : Bool) (es fs : List (List ℕ × Data)) (f g : Path → List Data) (p : List ℕ) (o : Option Path) → placed_at p es ≡ given f o → placed_at p fs ≡ given g o
    → placed_at p (cond v es fs) ≡ given (λ r. cond v (f r) (g r)) o
by_stop true es fs f g p o a b = a
by_stop false es fs f g p o a b = b

mutual
  at_listed : (stops : List (List ℕ)) (here : Option (List ℕ)) (d : Data) (p : List ℕ) → placed_at p (listed stops here d) ≡ given (at stops here d) (left here p)
  at_listed stops here null p = none_given (left here p)
  at_listed stops here (boolean b) p = at_placed here (boolean b) p
  at_listed stops here (number n) p = at_placed here (number n) p
  at_listed stops here (string s) p = at_placed here (string s) p
  at_listed stops here (array ds) p = at_listed_items stops here ds p
  at_listed stops here (object ms) p =
      by_stop (is_stop stops here) _ _ (whole_object ms) (at_members stops here ms) p (left here p) (at_whole here ms p) (at_listed_members stops here ms p)

  at_listed_items : (stops : List (List ℕ)) (here : Option (List ℕ)) (ds : Items) (p : List ℕ) → placed_at p (listed_items stops here ds) ≡ given (at_items stops here ds) (left here p)
  at_listed_items stops here no_items p = none_given (left here p)
  at_listed_items stops here (item d ds) p =
      placed_at-append p (listed stops here d) (listed_items stops here ds)
      ∙ ap₂ (λ xs ys. xs ++ ys) (at_listed stops here d p) (at_listed_items stops here ds p)
      ∙ given-append (at stops here d) (at_items stops here ds) (left here p)

  at_listed_members : (stops : List (List ℕ)) (here : Option (List ℕ)) (ms : Members) (p : List ℕ) → placed_at p (listed_members stops here ms) ≡ given (at_members stops here ms) (left here p)
  at_listed_members stops here no_members p = none_given (left here p)
  at_listed_members stops here (member s d ms) p =
      placed_at-append p (listed stops (Some (below here s)) d) (listed_members stops here ms)
      ∙ ap₂ (λ xs ys. xs ++ ys)
      (at_listed stops (Some (below here s)) d p ∙ ap (given (at stops (Some (below here s)) d)) (left-below here s p) ∙ given-behind (at stops (Some (below here s)) d) s (left here p))
      (at_listed_members stops here ms p)
      ∙ given-append (λ r. given (at stops (Some (below here s)) d) (behind s r)) (at_members stops here ms) (left here p)

-- what a walk from the document lists are its leaves
pub listed_are_leaves : (stops : List (List ℕ)) (d : Data) → AreLeaves stops d (listed stops None d)
unfolding AreLeaves leaves_of
listed_are_leaves stops d = λ p. at_listed stops None d p

-- an object at a stop is listed as it is, unless it is empty
pub listed_whole : (stops : List (List ℕ)) (here : Option (List ℕ)) (m : BTreeMap (String Global) Value) (v : Value) → is_stop stops here ≡ true → v ≡ Object m
    → (m.entries ≡ [] → ⊥) → placed here (view v) ≡ listed stops here (view v)
listed_whole stops here m v stop is some = rw (is, view-Object m, stop) (go m.entries some) where
  go : (es : List Entry) → (es ≡ [] → ⊥) → placed here (object (members_view es)) ≡ placed_object here (members_view es)
  go [] some = absurd (some refl)
  go (e ∷ es) some = refl

-- an object at a stop is the leaf, unless it is empty
pub whole_at : (stops : List (List ℕ)) (here : Option (List ℕ)) (m : BTreeMap (String Global) Value) (v : Value) (p : Path) → is_stop stops here ≡ true → v ≡ Object m
    → (m.entries ≡ [] → ⊥) → leaf (view v) p ≡ at stops here (view v) p
whole_at stops here m v p stop is some = rw (is, view-Object m, stop) (go m.entries some) where
  go : (es : List Entry) → (es ≡ [] → ⊥) → leaf (object (members_view es)) p ≡ whole_object (members_view es) p
  go [] some = absurd (some refl)
  go (e ∷ es) some = refl

-- no member is at the end
pub members_at_end : (stops : List (List ℕ)) (here : Option (List ℕ)) (ms : Members) → at_members stops here ms end ≡ []
members_at_end stops here no_members = refl
members_at_end stops here (member s d ms) = members_at_end stops here ms
