-- Fronts of paths, and paths that were told.
use Rattle.std.proofs.Common.{◌≡◌, ℕ, zero, suc, ◌+◌, ◌-◌, ◌<◌, ◌≤◌, min, List, [], ◌∷◌, ◌++◌, take, drop, length, get_or, Bool, true, false, cond, ◌||◌, Option, Some, None, true≢false, refl, sym, ap, ap₂, ◌∙◌, subst, arith}
use Rattle.std.specs.List.{list_any}
use Rattle.std.specs.Cmp.{tied_itself}
use Rattle.std.specs.Cmp.Lexicographic.{slice_cmp, nat_list_cmp_total}
use Rattle.std.specs.Ordering.{nat_cmp, is_lt, ordering_then}
use Rattle.std.specs.declared.cmp.Ordering.TheVariants.{Equal}
use Rattle.std.proofs.lemmas.Cmp.{nat_cmp_total}
use Rattle.std.proofs.lemmas.List.{length-append, length-take, take-append-le, take_more, get_or-take}
use Rattle.std.proofs.Math.ListN.{get_or-append}
use Rattle.row_cells.specs.declared.schemas.Field.{Field}
use Rattle.ts_mapping.specs.Paths.{is_among, is_below}
use Rattle.ts_mapping.specs.Schemas.{AreTemplateFields}
use Rattle.row_cells.specs.Limits.{longest_path}
use Rattle.row_cells.specs.WidenLaws.{other_bytes}
use Rattle.ts_mapping.specs.PathLaws.{none_below, short_path}
use Rattle.synthetic_source.specs.Fronts.{AreFronts, IsClear, IsKnown, IsTold, SharesFront, held_path, path_at}
use Rattle.synthetic_source.specs.Faults.{stray_fault}
use Rattle.synthetic_source.specs.Gathered.{paths_of, place_of}
use Rattle.synthetic_source.specs.Walked.{comes_first, least_step, or_held, seen_fault}
use Rattle.synthetic_source.specs.declared.errors.DocKind.{DocKind}
use Rattle.synthetic_source.specs.declared.strays.Strays.{Strays}
use Rattle.synthetic_source.proofs.Near.{Bytes, any_paths, below, same, above, bytes_are}

pub take_next : (xs ys : List ℕ) (n : ℕ) → n < length xs → n < length ys → get_or xs n 0 ≡ get_or ys n 0 → take n xs ≡ take n ys → take (n + 1) xs ≡ take (n + 1) ys
take_next xs ys n p q one front = take_more xs n 0 p ∙ (ap₂ (λ a b. a ++ b ∷ []) front one ∙ sym (take_more ys n 0 q))

-- paths with one front are in the order of what is behind it
pub rest_order : (n : ℕ) (xs ys : List ℕ) → n ≤ length xs → n ≤ length ys → take n xs ≡ take n ys → slice_cmp nat_cmp (drop n xs) (drop n ys) ≡ slice_cmp nat_cmp xs ys
rest_order zero xs ys a b front = refl
rest_order (suc n) [] ys a b front = absurd (omega arith)
rest_order (suc n) (x ∷ xs) [] a b front = absurd (omega arith)
rest_order (suc n) (x ∷ xs) (y ∷ ys) a b front =
    let first : x ≡ y = cc in
    let rest : take n xs ≡ take n ys = cc in
    rest_order n xs ys (omega arith) (omega arith) rest
    ∙ sym (ap (λ o. ordering_then o (slice_cmp nat_cmp xs ys)) (subst (λ z. nat_cmp x z ≡ Equal) first (tied_itself nat_cmp_total x)))

shorter_take : (i j : ℕ) (xs : List ℕ) → i ≤ j → take i (take j xs) ≡ take i xs
shorter_take zero j xs le = refl
shorter_take (suc i) zero xs le = absurd (omega arith)
shorter_take (suc i) (suc j) [] le = refl
shorter_take (suc i) (suc j) (x ∷ xs) le = ap (λ ys. x ∷ ys) (shorter_take i j xs (omega arith))

take_none : (m : ℕ) → take {A = ℕ} m [] ≡ []
take_none zero = refl
take_none (suc m) = refl

path_front : (place : List ℕ) (n : ℕ) → path_at (take n place) ≡ take (n - 1) (path_at place)
path_front place zero = refl
path_front [] (suc n) = sym (take_none (suc n - 1))
path_front (dot ∷ path) (suc n) = let e : n ≡ suc n - 1 = omega arith in ap (λ m. take m path) e

-- ---- going down

shares_more : (s : Strays) (p q : List ℕ) → SharesFront p s → SharesFront (p ++ q) s
shares_more s p q is = record {
  same = take-append-le s.shared p q is.within ∙ is.same;
  within = omega (arith, length-append p q, is.within);
  held = is.held;
}

clear_more : (fields : List Field) (p q : List ℕ) (n : ℕ) → n ≤ length p → IsClear fields p n → IsClear fields (p ++ q) n
clear_more fields p q n within clear k lt dot =
    subst (λ r. is_among r (paths_of fields) ≡ false) (sym (take-append-le k p q (omega arith)))
    (clear k lt (sym (get_or-append p q 0 k (omega arith)) ∙ dot))

fronts_more : (fields : List Field) (p q : List ℕ) (s : Strays) → AreFronts fields p s → AreFronts fields (p ++ q) s
fronts_more fields p q s is = record {
  shares = shares_more s p q is.shares;
  clear = clear_more fields p q s.clear is.within is.clear;
  within = omega (arith, length-append p q, is.within);
}

fronts_enter : (fields : List Field) (place name : List ℕ) (s : Strays) → AreFronts fields (path_at place) s → AreFronts fields (path_at (place ++ 46 ∷ name)) s
fronts_enter fields [] name s is = fronts_more fields [] name s is
fronts_enter fields (dot ∷ path) name s is = fronts_more fields path (46 ∷ name) s is

-- only what is told of the path itself is forgotten
fronts_of : (fields : List Field) (path : List ℕ) (s t : Strays) → t.least ≡ s.least → t.shared ≡ s.shared → t.clear ≡ s.clear → AreFronts fields path s → AreFronts fields path t
fronts_of fields path s t least shared clear is = record {
  shares = record {
    same = ap (λ n. take n path) shared ∙ (is.shares.same ∙ sym (ap₂ (λ n l. take n (held_path l)) shared least));
    within = omega (arith, shared, is.shares.within);
    held = subst (λ l. t.shared ≤ length (held_path l)) (sym least) (omega (arith, shared, is.shares.held));
  };
  clear = subst (IsClear fields path) (sym clear) is.clear;
  within = omega (arith, clear, is.within);
}

untold : (strict : Bool) (fields : List Field) (path : List ℕ) (t : Strays) → t.is_told ≡ false → AreFronts fields path t → IsKnown strict fields path t
untold strict fields path t never fronts = record { fronts = fronts; told = λ told. absurd (true≢false (sym told ∙ never)) }

pub known_entered : (strict : Bool) (fields : List Field) (place name inner : List ℕ) (s t : Strays) → inner ≡ place ++ 46 ∷ name → t ≡ record s { is_told = false }
    → IsKnown strict fields (path_at place) s → IsKnown strict fields (path_at inner) t
known_entered strict fields place name inner s t goes is_t is =
    subst (λ p. IsKnown strict fields (path_at p) t) (sym goes)
    (subst (IsKnown strict fields (path_at (place ++ 46 ∷ name))) (sym is_t)
    (untold strict fields (path_at (place ++ 46 ∷ name)) (record s { is_told = false }) refl (fronts_of fields (path_at (place ++ 46 ∷ name)) s (record s { is_told = false }) refl refl refl (fronts_enter fields place name s is.fronts))))

-- ---- going back

pub known_leave : (strict : Bool) (fields : List Field) (place : List ℕ) (n : ℕ) (s t : Strays) → t.least ≡ s.least → t.shared ≡ min s.shared (n - 1) → t.clear ≡ min s.clear (n - 1) → t.is_told ≡ false
    → IsKnown strict fields (path_at place) s → IsKnown strict fields (path_at (take n place)) t
known_leave strict fields place n s t least shared clear never known =
    let m = n - 1 in
    let path = path_at place in
    let is = known.fronts in
    subst (λ p. IsKnown strict fields p t) (sym (path_front place n)) (untold strict fields (take m path) t never (record {
      shares = record {
        same =
            shorter_take t.shared m path (omega arith)
            ∙ (sym (shorter_take t.shared s.shared path (omega arith))
            ∙ (ap (take t.shared) is.shares.same
            ∙ (shorter_take t.shared s.shared (held_path s.least) (omega arith) ∙ ap (λ l. take t.shared (held_path l)) (sym least))));
        within = omega (arith, length-take m path, is.shares.within);
        held = subst (λ l. t.shared ≤ length (held_path l)) (sym least) (omega (arith, is.shares.held));
      };
      clear = λ k lt dot.
          subst (λ r. is_among r (paths_of fields) ≡ false) (sym (shorter_take k m path (omega arith)))
          (is.clear k (omega arith) (sym (get_or-take m path k 0 (omega arith)) ∙ dot));
      within = omega (arith, length-take m path, is.within);
    }))

-- ---- a path that is told twice

-- told once more, a path changes nothing
told_twice : (strict : Bool) (fields : List Field) (p : List ℕ) (held : Option (DocKind × List ℕ)) → least_step strict fields p (least_step strict fields p held) ≡ least_step strict fields p held
told_twice strict fields p held = go (comes_first p held) refl (stray_fault strict fields p) refl
  where
    itself : (kind : DocKind) → comes_first p (Some (kind, p)) ≡ false
    itself kind = ap is_lt (tied_itself nat_list_cmp_total p)

    by : (o : Option DocKind) → stray_fault strict fields p ≡ o → comes_first p held ≡ true → least_step strict fields p (or_held o p held) ≡ or_held o p held
    by None none first = ap (λ b. cond b (or_held (stray_fault strict fields p) p held) held) first ∙ ap (λ o. or_held o p held) none
    by (Some kind) some first = ap (λ b. cond b (or_held (stray_fault strict fields p) p (Some (kind, p))) (Some (kind, p))) (itself kind)

    go : (v : Bool) → comes_first p held ≡ v → (o : Option DocKind) → stray_fault strict fields p ≡ o
        → least_step strict fields p (cond v (or_held (stray_fault strict fields p) p held) held) ≡ cond v (or_held (stray_fault strict fields p) p held) held
    go true first o is = ap (λ x. least_step strict fields p (or_held x p held)) is ∙ (by o is first ∙ ap (λ x. or_held x p held) (sym is))
    go false first o is = ap (λ b. cond b (or_held (stray_fault strict fields p) p held) held) first

told_is : (strict : Bool) (fields : List Field) (p : List ℕ) (s t : Strays) → place_of p fields ≡ None → seen_fault t.least ≡ least_step strict fields p (seen_fault s.least) → IsTold strict fields p t
told_is strict fields p s t nowhere is = record {
  nowhere = nowhere;
  settled = ap (least_step strict fields p) is ∙ (told_twice strict fields p (seen_fault s.least) ∙ sym is);
}

-- what was told is known to be told
pub told_known : (strict : Bool) (fields : List Field) (p : List ℕ) (s r t : Strays) → place_of p fields ≡ None → seen_fault r.least ≡ least_step strict fields p (seen_fault s.least) → AreFronts fields p r
    → t ≡ record r { is_told = true } → IsKnown strict fields p t
told_known strict fields p s r t nowhere is fronts is_t =
    subst (IsKnown strict fields p) (sym is_t) (record {
      fronts = fronts_of fields p r (record r { is_told = true }) refl refl refl fronts;
      told = λ told. told_is strict fields p s (record r { is_told = true }) nowhere is;
    })

-- ---- fields above

long_nowhere : (p : List ℕ) (fs : List Field) → AreTemplateFields fs → longest_path < length p → is_among p (paths_of fs) ≡ false
long_nowhere p [] are long = refl
long_nowhere p (f ∷ fs) are long =
    ap (λ b. b || is_among p (paths_of fs)) (other_bytes p f.path differ) ∙ long_nowhere p fs are.1 long
  where
    differ : p ≡ f.path → ⊥
    differ alike = let short = short_path f.path are.0.path in let size = ap length alike in omega (arith, short, size, long)

pub none_above : (fields : List Field) (path : List ℕ) (n : ℕ) → AreTemplateFields fields → IsClear fields path n → min (length path) (longest_path + 1) ≤ n → list_any (λ f. is_below path f.path) fields ≡ false
none_above fields path n are clear far = sym (any_paths (is_below path) fields) ∙ none_below path (paths_of fields) (λ k lt dot. go k lt dot (bytes_are k n))
  where
    beyond : (k : ℕ) → k < length path → n ≤ k → is_among (take k path) (paths_of fields) ≡ false
    beyond k lt le = long_nowhere (take k path) fields are (omega (arith, length-take k path))

    go : (k : ℕ) → k < length path → get_or path k 0 ≡ 46 → Bytes k n → is_among (take k path) (paths_of fields) ≡ false
    go k lt dot (below less) = clear k less dot
    go k lt dot (same is) = beyond k lt (omega arith)
    go k lt dot (above more) = beyond k lt (omega arith)
