-- Lists that are made of parts of others.
use Rattle.std.proofs.Common.{◌≡◌, ℕ, ℤ, ◌+◌, ◌-◌, ◌<◌, ◌≤◌, List, [], ◌∷◌, ◌++◌, length, take, drop, get_or, map, refl, sym, ◌∙◌, ap, arith}
use Rattle.std.specs.List.{slice_range}
use Rattle.std.proofs.Common.{suc, zero}
use Rattle.std.proofs.lemmas.List.{append_assoc, append-nil, take_more, map-append, drop-map, take-map, length-append, take-append-drop}
use Rattle.std.proofs.lemmas.List.Concat.{flat_map-append}
use Rattle.std.proofs.Math.Seq.{take-add, take-append_seam, drop-append_seam}
use Rattle.packed_lists.specs.declared.picks.Turn.{Turn}
use Rattle.packed_lists.specs.Lists.{joined, items_before}
use Rattle.packed_lists.specs.Packing.{turn_of, picked, item_turn, Lies, EachLies, EachOrder}

-- turns one after the other
pub picked-append : {A : Type 0} (lists : List (List A)) (xs ys : List Turn) → picked lists (xs ++ ys) ≡ picked lists xs ++ picked lists ys
picked-append lists xs ys = flat_map-append (turn_of lists) xs ys

pub lies-at : (lists : List (List ℤ)) (turns : List Turn) (k : ℕ) (d : Turn) → EachLies lists turns → k < length turns → Lies lists (get_or turns k d)
lies-at lists [] k d h l = absurd (omega arith)
lies-at lists (t ∷ ts) zero d h l = h.0
lies-at lists (t ∷ ts) (suc k) d h l = lies-at lists ts k d h.1 (omega arith)

picked-one : {A : Type 0} (lists : List (List A)) (t : Turn) → picked lists (t ∷ []) ≡ turn_of lists t
picked-one lists t = append-nil (turn_of lists t)

-- one turn more
pub picked-more : {A : Type 0} (lists : List (List A)) (turns : List Turn) (k : ℕ) (d : Turn) → k < length turns → picked lists (take (k + 1) turns) ≡ picked lists (take k turns) ++ turn_of lists (get_or turns k d)
picked-more lists turns k d l =
    ap (picked lists) (take_more turns k d l) ∙ picked-append lists (take k turns) (get_or turns k d ∷ []) ∙ ap (λ z. picked lists (take k turns) ++ z) (picked-one lists (get_or turns k d))

at-joined : {A : Type 0} (ls : List (List (List A))) (k : ℕ) → get_or (map joined ls) k [] ≡ joined (get_or ls k [])
at-joined [] k = refl
at-joined (l ∷ ls) zero = refl
at-joined (l ∷ ls) (suc k) = at-joined ls k

at-map : {A B : Type 0} (f : A → B) (ls : List (List A)) (k : ℕ) → get_or (map (map f) ls) k [] ≡ map f (get_or ls k [])
at-map f [] k = refl
at-map f (l ∷ ls) zero = refl
at-map f (l ∷ ls) (suc k) = at-map f ls k

pub range-map : {A B : Type 0} (f : A → B) (xs : List A) (a b : ℕ) → slice_range (map f xs) a b ≡ map f (slice_range xs a b)
range-map f xs a b = ap (take (b - a)) (drop-map f a xs) ∙ take-map f (b - a) (drop a xs)

-- each number of a list changed
pub picked-map : {A B : Type 0} (f : A → B) (lists : List (List A)) (turns : List Turn) → picked (map (map f) lists) turns ≡ map f (picked lists turns)
picked-map f lists [] = refl
picked-map f lists (t ∷ ts) =
    ap (λ z. slice_range z t.from t.to ++ picked (map (map f) lists) ts) (at-map f lists t.source)
    ∙ ap (λ z. z ++ picked (map (map f) lists) ts) (range-map f (get_or lists t.source []) t.from t.to)
    ∙ ap (λ z. map f (turn_of lists t) ++ z) (picked-map f lists ts)
    ∙ sym (map-append f (turn_of lists t) (picked lists ts))

-- ---- items of lists

pub joined-append : {A : Type 0} (xs ys : List (List A)) → joined (xs ++ ys) ≡ joined xs ++ joined ys
joined-append xs ys = flat_map-append (λ z. z) xs ys

-- the items of some lists of a list are some items
pub joined-range : {A : Type 0} (xs : List (List A)) (a b : ℕ) → a ≤ b → joined (slice_range xs a b) ≡ slice_range (joined xs) (items_before xs a) (items_before xs b)
joined-range xs a b h =
    let front = joined (take a xs) in
    let part = joined (slice_range xs a b) in
    let rest = joined (drop b xs) in
    let e : a + (b - a) ≡ b = omega arith in
    let upto : take b xs ≡ take a xs ++ slice_range xs a b = ap (λ z. take z xs) (sym e) ∙ take-add a (b - a) xs in
    let n : items_before xs b ≡ length front + length part = ap (λ (z : List (List _)). length (joined z)) upto ∙ ap (λ (z : List _). length z) (joined-append (take a xs) (slice_range xs a b)) ∙ length-append front part in
    let all : joined xs ≡ front ++ (part ++ rest) =
    ap joined (sym (take-append-drop b xs)) ∙ joined-append (take b xs) (drop b xs)
    ∙ ap (λ (z : List (List _)). joined z ++ rest) upto ∙ ap (λ z. z ++ rest) (joined-append (take a xs) (slice_range xs a b)) ∙ append_assoc front part rest in
    let m : items_before xs b - items_before xs a ≡ length part = omega (arith, n) in
    sym (ap (λ z. take z (drop (length front) (joined xs))) m ∙ ap (λ z. take (length part) (drop (length front) z)) all ∙ ap (take (length part)) (drop-append_seam front (part ++ rest)) ∙ take-append_seam part rest)

-- the items of what is picked are picked items
pub picked-joined : {A : Type 0} (lists : List (List (List A))) (turns : List Turn) → EachOrder turns → joined (picked lists turns) ≡ picked (map joined lists) (map (item_turn lists) turns)
picked-joined lists [] h = refl
picked-joined lists (t ∷ ts) h =
    let xs = get_or lists t.source [] in
    joined-append (turn_of lists t) (picked lists ts)
    ∙ ap (λ z. z ++ joined (picked lists ts)) (joined-range xs t.from t.to h.0)
    ∙ ap (λ z. slice_range z (items_before xs t.from) (items_before xs t.to) ++ joined (picked lists ts)) (sym (at-joined lists t.source))
    ∙ ap (λ z. turn_of (map joined lists) (item_turn lists t) ++ z) (picked-joined lists ts h.1)

-- how many items a turn has, by their lengths
pub item-count : {A : Type 0} (xs : List (List A)) (a b : ℕ) → a ≤ b → items_before xs b ≡ items_before xs a + length (joined (slice_range xs a b))
item-count xs a b h =
    let e : a + (b - a) ≡ b = omega arith in
    ap (λ z. length (joined (take z xs))) (sym e) ∙ ap (λ (z : List (List _)). length (joined z)) (take-add a (b - a) xs)
    ∙ ap (λ (z : List _). length z) (joined-append (take a xs) (slice_range xs a b)) ∙ length-append (joined (take a xs)) (joined (slice_range xs a b))
