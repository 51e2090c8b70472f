-- Leaves that go to their fields one after another.
use Rattle.std.proofs.Common.{◌≡◌, ℕ, suc, ◌<◌, List, [], ◌∷◌, ◌++◌, map, filter, length, get_or, set, Bool, true, false, cond, bytes_eq, Option, Some, None, refl, sym, ap, ap₂, ◌∙◌, subst, arith, append_assoc, append-nil}
use Rattle.std.specs.Cmp.Lexicographic.{slice_cmp}
use Rattle.std.specs.Ordering.{nat_cmp, match_ordering}
use Rattle.std.specs.declared.cmp.Ordering.{Ordering}
use Rattle.std.specs.declared.cmp.Ordering.TheVariants.{Less, Equal, Greater}
use Rattle.std.proofs.lemmas.List.{map-set, get_or-map, length-map}
use Rattle.std.proofs.lemmas.Map.Lookups.{exact_bytes}
use Rattle.row_cells.specs.Dimensions.{IsBefore}
use Rattle.row_cells.specs.JoinLaws.{before_chain, before_of_after}
use Rattle.row_cells.specs.declared.schemas.Field.{Field}
use Rattle.row_cells.specs.WidenLaws.{apart, other_bytes, same_bytes}
use Rattle.serde_json.specs.Data.{Data}
use Rattle.json_walk.specs.Leaves.{placed_at}
use Rattle.synthetic_source.specs.Gathered.{add_if, by_field, leaves_after, paths_of, place_of, slot_leaves, with_leaf}
use Rattle.synthetic_source.specs.Places.{RiseAfter, Rise, Place, later_place, place_among, found_if}
use Rattle.synthetic_source.specs.declared.gathering.Slot.{Slot}
use Rattle.synthetic_source.proofs.Added.{found_within}

place_cmp : Ordering → Place → Place
place_cmp o p = match_ordering o (record { at = 0; found = false }) (record { at = 0; found = true }) (later_place p)

place_if : Place → Option ℕ
place_if p = found_if p.found p.at

-- no field from here on has the path
leaf_before : (p q : List ℕ) (fs : List Field) (d : Data) (lss : List (List Data)) → IsBefore p q → RiseAfter q (paths_of fs) → with_leaf fs p d lss ≡ lss
leaf_before p q [] d lss before rise = refl
leaf_before p q (f ∷ fs) d [] before rise = refl
leaf_before p q (f ∷ fs) d (ls ∷ lss) before rise =
    let on = before_chain p q f.path before rise.0 in
    ap₂ (λ b xs. add_if b ls d ∷ xs) (other_bytes p f.path (apart p f.path on)) (leaf_before p f.path fs d lss on rise.1)

tail_rise : (q : List ℕ) (fs : List Field) → RiseAfter q (paths_of fs) → Rise (paths_of fs)
tail_rise q [] rise = tt
tail_rise q (f ∷ fs) rise = rise.1

-- the leaf of a path that no field has changes nothing
pub leaf_nowhere : (p : List ℕ) (d : Data) (fs : List Field) (lss : List (List Data)) → Rise (paths_of fs) → place_of p fs ≡ None → with_leaf fs p d lss ≡ lss
leaf_nowhere p d [] lss rise none = refl
leaf_nowhere p d (f ∷ fs) [] rise none = refl
leaf_nowhere p d (f ∷ fs) (ls ∷ lss) rise none = go (slice_cmp nat_cmp p f.path) refl none (leaf_nowhere p d fs lss (tail_rise f.path fs rise))
  where
    later : (q : Place) → found_if q.found (suc q.at) ≡ None → found_if q.found q.at ≡ None
    later q none = by q.found none
      where
        by : (b : Bool) → found_if b (suc q.at) ≡ None → found_if b q.at ≡ None
        by true none = cc
        by false none = refl

    go : (o : Ordering) → slice_cmp nat_cmp p f.path ≡ o
        → found_if (match_ordering o (record { at = 0; found = false }) (record { at = 0; found = true }) (later_place (place_among p (paths_of fs)))).found (match_ordering o (record { at = 0; found = false }) (record { at = 0; found = true }) (later_place (place_among p (paths_of fs)))).at ≡ None
        → (place_of p fs ≡ None → with_leaf fs p d lss ≡ lss) → add_if (bytes_eq p f.path) ls d ∷ with_leaf fs p d lss ≡ ls ∷ lss
    go Less is none rest = ap₂ (λ b xs. add_if b ls d ∷ xs) (other_bytes p f.path (apart p f.path is)) (leaf_before p f.path fs d lss is rise)
    go Equal is none rest = cc
    go Greater is none rest = ap₂ (λ b xs. add_if b ls d ∷ xs) (other_bytes p f.path (λ same. apart f.path p (before_of_after p f.path is) (sym same))) (rest (later (place_among p (paths_of fs)) none))

-- the leaf of a field's path goes to that field
pub leaf_there : (p : List ℕ) (d : Data) (fs : List Field) (lss : List (List Data)) (at : ℕ) → Rise (paths_of fs) → place_of p fs ≡ Some at → length lss ≡ length fs → with_leaf fs p d lss ≡ set lss at (get_or lss at [] ++ d ∷ [])
leaf_there p d [] lss at rise some long = cc
leaf_there p d (f ∷ fs) [] at rise some long = absurd (omega arith)
leaf_there p d (f ∷ fs) (ls ∷ lss) at rise some long = go (slice_cmp nat_cmp p f.path) refl at some (λ at some. leaf_there p d fs lss at (tail_rise f.path fs rise) some (omega arith))
  where
    earlier : (q : Place) (at : ℕ) → found_if q.found (suc q.at) ≡ Some at → (n : ℕ) × (at ≡ suc n) × (found_if q.found q.at ≡ Some n)
    earlier q at some = by q.found some
      where
        by : (b : Bool) → found_if b (suc q.at) ≡ Some at → (n : ℕ) × (at ≡ suc n) × (found_if b q.at ≡ Some n)
        by true some = (q.at, cc, refl)
        by false some = cc

    go : (o : Ordering) → slice_cmp nat_cmp p f.path ≡ o → (at : ℕ)
        → found_if (match_ordering o (record { at = 0; found = false }) (record { at = 0; found = true }) (later_place (place_among p (paths_of fs)))).found (match_ordering o (record { at = 0; found = false }) (record { at = 0; found = true }) (later_place (place_among p (paths_of fs)))).at ≡ Some at
        → ((at : ℕ) → place_of p fs ≡ Some at → with_leaf fs p d lss ≡ set lss at (get_or lss at [] ++ d ∷ []))
        → add_if (bytes_eq p f.path) ls d ∷ with_leaf fs p d lss ≡ set (ls ∷ lss) at (get_or (ls ∷ lss) at [] ++ d ∷ [])
    go Less is at some rest = cc
    go Equal is at some rest =
        let zeroth : 0 ≡ at = cc in
        let same = exact_bytes p f.path is in
        ap₂ (λ b xs. add_if b ls d ∷ xs) (same_bytes p f.path same) (subst (λ q. with_leaf fs q d lss ≡ lss) (sym same) (leaf_at_first f.path fs rise lss))
        ∙ ap (λ n. set (ls ∷ lss) n (get_or (ls ∷ lss) n [] ++ d ∷ [])) zeroth
      where
        leaf_at_first : (q : List ℕ) (fs : List Field) → RiseAfter q (paths_of fs) → (lss : List (List Data)) → with_leaf fs q d lss ≡ lss
        leaf_at_first q [] rise lss = refl
        leaf_at_first q (g ∷ gs) rise [] = refl
        leaf_at_first q (g ∷ gs) rise (ls ∷ lss) = ap₂ (λ b xs. add_if b ls d ∷ xs) (other_bytes q g.path (apart q g.path rise.0)) (leaf_before q g.path gs d lss rise.0 rise.1)
    go Greater is at some rest =
        let at_later = earlier (place_among p (paths_of fs)) at some in
        ap₂ (λ b xs. add_if b ls d ∷ xs) (other_bytes p f.path (λ same. apart f.path p (before_of_after p f.path is) (sym same))) (rest at_later.0 at_later.2)
        ∙ ap (λ n. set (ls ∷ lss) n (get_or (ls ∷ lss) n [] ++ d ∷ [])) (sym at_later.1)

placed_last : (p : List ℕ) (es : List (List ℕ × Data)) (q : List ℕ) (d : Data) → placed_at p (es ++ (q, d) ∷ []) ≡ add_if (bytes_eq q p) (placed_at p es) d
placed_last p [] q d = go (bytes_eq q p)
  where
    go : (v : Bool) → map (λ (e : List ℕ × Data). e.1) (cond v ((q, d) ∷ []) []) ≡ add_if v [] d
    go true = refl
    go false = refl
placed_last p (e ∷ es) q d = go (bytes_eq e.0 p) (placed_last p es q d)
  where
    go : (v : Bool) → placed_at p (es ++ (q, d) ∷ []) ≡ add_if (bytes_eq q p) (placed_at p es) d
        → map (λ (x : List ℕ × Data). x.1) (cond v (e ∷ filter (λ x. bytes_eq x.0 p) (es ++ (q, d) ∷ [])) (filter (λ x. bytes_eq x.0 p) (es ++ (q, d) ∷ [])))
        ≡ add_if (bytes_eq q p) (map (λ (x : List ℕ × Data). x.1) (cond v (e ∷ filter (λ x. bytes_eq x.0 p) es) (filter (λ x. bytes_eq x.0 p) es))) d
    go true later = ap (λ xs. e.1 ∷ xs) later ∙ in_front (bytes_eq q p)
      where
        in_front : (w : Bool) → e.1 ∷ add_if w (placed_at p es) d ≡ add_if w (e.1 ∷ placed_at p es) d
        in_front true = refl
        in_front false = refl
    go false later = later

field_last : (fs : List Field) (es : List (List ℕ × Data)) (q : List ℕ) (d : Data) → with_leaf fs q d (by_field fs es) ≡ by_field fs (es ++ (q, d) ∷ [])
field_last [] es q d = refl
field_last (f ∷ fs) es q d = ap₂ (λ ls lss. ls ∷ lss) (sym (placed_last f.path es q d)) (field_last fs es q d)

fields_on : (fs : List Field) (done rest : List (List ℕ × Data)) → leaves_after fs (by_field fs done) rest ≡ by_field fs (done ++ rest)
fields_on fs done [] = ap (by_field fs) (sym (append-nil done))
fields_on fs done (e ∷ es) = ap (λ lss. leaves_after fs lss es) (field_last fs done e.0 e.1) ∙ (fields_on fs (done ++ e ∷ []) es ∙ ap (by_field fs) (append_assoc done (e ∷ []) es))

-- leaves that go to their fields one after another are the leaves of each field
pub fields_have_all : (fs : List Field) (es : List (List ℕ × Data)) → leaves_after fs (by_field fs []) es ≡ by_field fs es
fields_have_all fs es = fields_on fs [] es

pub place_below : (p : List ℕ) (fs : List Field) (at : ℕ) → place_of p fs ≡ Some at → at < length fs
place_below p fs at some = by (place_among p (paths_of fs)) refl some
  where
    by : (q : Place) → place_among p (paths_of fs) ≡ q → found_if q.found q.at ≡ Some at → at < length fs
    by q is some = of_found q.found refl some
      where
        of_found : (b : Bool) → q.found ≡ b → found_if b q.at ≡ Some at → at < length fs
        of_found true found some =
            let within = found_within p (paths_of fs) (ap (λ x. x.found) is ∙ found) in
            let same : q.at ≡ at = cc in
            omega (arith, within, ap (λ x. x.at) is, same, length-map fs (λ (f : Field). f.path))
        of_found false found some = cc

pub put_there : (p : List ℕ) (d : Data) (fs : List Field) (ss : List Slot) (at : ℕ) (old new : Slot) → Rise (paths_of fs) → place_of p fs ≡ Some at → length ss ≡ length fs
    → old ≡ get_or ss at old → slot_leaves new ≡ slot_leaves old ++ d ∷ [] → map slot_leaves (set ss at new) ≡ with_leaf fs p d (map slot_leaves ss)
put_there p d fs ss at old new rise some long is_old is_new =
    let below : at < length ss = omega (arith, place_below p fs at some) in
    map-set slot_leaves ss at new
    ∙ (ap (set (map slot_leaves ss) at) (is_new ∙ ap (λ ls. ls ++ d ∷ []) (ap slot_leaves is_old ∙ sym (get_or-map slot_leaves ss at old [] below)))
    ∙ sym (leaf_there p d fs (map slot_leaves ss) at rise some (length-map ss slot_leaves ∙ long)))
