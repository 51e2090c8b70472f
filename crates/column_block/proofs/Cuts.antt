-- Lists by their lengths and all their items.
use Rattle.std.proofs.Common.{◌≡◌, ℕ, ℤ, pos, negsuc, suc, ◌+◌, ◌-◌, ◌*◌, ◌/◌, ◌<◌, ◌≤◌, List, [], ◌∷◌, ◌++◌, length, get_or, take, drop, refl, sym, ◌∙◌, ap, subst, arith}
use Rattle.std.specs.Prelude.{unsigned_abs, slice_range}
use Rattle.std.specs.Int.{w64, cast_signed, cast_unsigned}
use Rattle.std.specs.List.{All}
use Rattle.std.proofs.lemmas.Int.{ints, to_z-of_z, fits_signed_from_abs}
use Rattle.std.proofs.lemmas.List.{take_more, length-append, length-drop, length-take, take-append-drop, take-map, drop-map, length-map, length-take-le}
use Rattle.std.proofs.lemmas.List.Elements.{All-push, All-head, All-tail, All-nil, All-cons, All-take, All-drop}
use Rattle.std.proofs.Math.Seq.{take-add, take-append_seam, drop-append_seam}
use Rattle.row_cells.specs.Limits.{longest_list}
use Rattle.packed_lists.specs.Lists.{joined}
use Rattle.packed_lists.specs.Laws.Picking.{joined-append}
use Rattle.column_block.specs.Cutting.{cut, total, IsSize, IsShort, AreStarts}
use Rattle.row_cells.specs.Each.{Each}
use Rattle.column_block.specs.Spelling.{lengths}

pub size-small : (v : ℤ) → IsSize v → unsigned_abs v ≤ longest_list
size-small (pos n) h = omega (arith, ints, h.short)
size-small (negsuc n) h = absurd (omega (arith, ints, h.positive))

pub size-cast : (v : ℤ) → IsSize v → cast_signed w64 (cast_unsigned w64 v) ≡ v
size-cast v h = to_z-of_z w64 v (fits_signed_from_abs w64 v (omega (arith, size-small v h)))

pub total-append : (a b : List ℤ) → total (a ++ b) ≡ total a + total b
total-append [] b = omega arith
total-append (x ∷ a) b = omega (arith, total-append a b)

pub total-more : (xs : List ℤ) (k : ℕ) (d : ℤ) → k < length xs → total (take (k + 1) xs) ≡ total (take k xs) + unsigned_abs (get_or xs k d)
total-more xs k d h = ap total (take_more xs k d h) ∙ total-append (take k xs) (get_or xs k d ∷ []) ∙ omega arith

pub total-part : (xs : List ℤ) (from to : ℕ) → from ≤ to → total (take to xs) ≡ total (take from xs) + total (slice_range xs from to)
total-part xs from to h =
    let e : to ≡ from + (to - from) = omega arith in
    ap (λ z. total (take z xs)) e ∙ ap total (take-add from (to - from) xs) ∙ total-append (take from xs) (slice_range xs from to)

pub sizes-more : (xs : List ℤ) (k : ℕ) (d : ℤ) → k < length xs → All IsSize (take k xs) → IsSize (get_or xs k d) → All IsSize (take (k + 1) xs)
sizes-more xs k d h all one = subst (λ z. All IsSize z) (sym (take_more xs k d h)) (All-push IsSize (take k xs) (get_or xs k d) all one)

-- ---- lists and their lengths

pub total-lengths : {A : Type 0} (lists : List (List A)) → total (lengths lists) ≡ length (joined lists)
total-lengths [] = refl
total-lengths (x ∷ lists) = omega (arith, total-lengths lists, length-append x (joined lists))

pub cut-joined : {A : Type 0} (lists : List (List A)) → cut (lengths lists) (joined lists) ≡ lists
cut-joined [] = refl
cut-joined (x ∷ lists) =
    ap (λ z. z ∷ cut (lengths lists) (drop (length x) (x ++ joined lists))) (take-append_seam x (joined lists))
    ∙ ap (λ z. x ∷ cut (lengths lists) z) (drop-append_seam x (joined lists)) ∙ ap (λ z. x ∷ z) (cut-joined lists)

-- sizes are those of the lists that they cut
pub lengths-cut : {A : Type 0} (ns : List ℤ) (xs : List A) → All IsSize ns → total ns ≤ length xs → lengths (cut ns xs) ≡ ns
lengths-cut [] xs all h = refl
lengths-cut (n ∷ ns) xs all h =
    let len : length (take (unsigned_abs n) xs) ≡ unsigned_abs n = length-take-le (unsigned_abs n) xs (omega arith) in
    ap (λ z. pos z ∷ lengths (cut ns (drop (unsigned_abs n) xs))) len ∙ ap (λ z. z ∷ lengths (cut ns (drop (unsigned_abs n) xs))) (back n (All-head IsSize n ns all))
    ∙ ap (λ z. n ∷ z) (lengths-cut ns (drop (unsigned_abs n) xs) (All-tail IsSize n ns all) (omega (arith, length-drop (unsigned_abs n) xs)))
  where
    back : (v : ℤ) → IsSize v → pos (unsigned_abs v) ≡ v
    back (pos k) g = refl
    back (negsuc k) g = absurd (omega (arith, ints, g.positive))

pub joined-cut : {A : Type 0} (ns : List ℤ) (xs : List A) → total ns ≡ length xs → joined (cut ns xs) ≡ xs
joined-cut [] [] h = refl
joined-cut [] (x ∷ xs) h = absurd (omega arith)
joined-cut (n ∷ ns) xs h =
    ap (λ z. take (unsigned_abs n) xs ++ z) (joined-cut ns (drop (unsigned_abs n) xs) (omega (arith, length-drop (unsigned_abs n) xs))) ∙ take-append-drop (unsigned_abs n) xs

pub length-cut : {A : Type 0} (ns : List ℤ) (xs : List A) → length (cut ns xs) ≡ length ns
length-cut [] xs = refl
length-cut (n ∷ ns) xs = ap suc (length-cut ns (drop (unsigned_abs n) xs))

-- ---- a range of lists

pub lengths-range : {A : Type 0} (lists : List (List A)) (from to : ℕ) → slice_range (lengths lists) from to ≡ lengths (slice_range lists from to)
lengths-range lists from to = ap (take (to - from)) (drop-map (λ xs. pos (length xs)) from lists) ∙ take-map (λ xs. pos (length xs)) (to - from) (drop from lists)

pub lengths-take : {A : Type 0} (lists : List (List A)) (k : ℕ) → take k (lengths lists) ≡ lengths (take k lists)
lengths-take lists k = take-map (λ xs. pos (length xs)) k lists

pub joined-split : {A : Type 0} (lists : List (List A)) (k : ℕ) → joined lists ≡ joined (take k lists) ++ joined (drop k lists)
joined-split lists k = ap joined (sym (take-append-drop k lists)) ∙ joined-append (take k lists) (drop k lists)

pub joined-drop : {A : Type 0} (lists : List (List A)) (k : ℕ) → drop (length (joined (take k lists))) (joined lists) ≡ joined (drop k lists)
joined-drop lists k = ap (drop (length (joined (take k lists)))) (joined-split lists k) ∙ drop-append_seam (joined (take k lists)) (joined (drop k lists))

pub joined-take : {A : Type 0} (lists : List (List A)) (k : ℕ) → take (length (joined (take k lists))) (joined lists) ≡ joined (take k lists)
joined-take lists k = ap (take (length (joined (take k lists)))) (joined-split lists k) ∙ take-append_seam (joined (take k lists)) (joined (drop k lists))

-- the items of a range of lists, from where those before them end
pub joined-range : {A : Type 0} (lists : List (List A)) (from to first last : ℕ) → first ≡ total (take from (lengths lists)) → last ≡ first + total (slice_range (lengths lists) from to)
    → slice_range (joined lists) first last ≡ joined (slice_range lists from to)
joined-range lists from to first last f l =
    let a : first ≡ length (joined (take from lists)) = f ∙ ap total (lengths-take lists from) ∙ total-lengths (take from lists) in
    let n : last - first ≡ length (joined (slice_range lists from to)) = omega (arith, ap total (lengths-range lists from to), total-lengths (slice_range lists from to)) in
    ap (λ z. take z (drop first (joined lists))) n ∙ ap (λ z. take (length (joined (slice_range lists from to))) (drop z (joined lists))) a
    ∙ ap (take (length (joined (slice_range lists from to)))) (joined-drop lists from) ∙ joined-take (drop from lists) (to - from)

-- ---- what lists may be

pub lengths-sizes : (lists : List (List ℤ)) → Each IsShort lists → All IsSize (lengths lists)
lengths-sizes [] h = All-nil IsSize
lengths-sizes (x ∷ lists) h = All-cons IsSize (pos (length x)) (lengths lists) (record { positive = omega (arith, ints); short = omega (arith, ints, h.0) }) (lengths-sizes lists h.1)

pub short-cut : (ns : List ℤ) (xs : List ℤ) → All IsSize ns → Each IsShort (cut ns xs)
short-cut [] xs all = tt
short-cut (n ∷ ns) xs all =
    (omega (arith, length-take (unsigned_abs n) xs, size-small n (All-head IsSize n ns all)), short-cut ns (drop (unsigned_abs n) xs) (All-tail IsSize n ns all))

pub total-few : (ns : List ℤ) → All IsSize ns → total ns ≤ longest_list * length ns
total-few [] all = omega arith
total-few (n ∷ ns) all = omega (arith, size-small n (All-head IsSize n ns all), total-few ns (All-tail IsSize n ns all))

pub sizes-range : (ns : List ℤ) (from to : ℕ) → All IsSize ns → All IsSize (slice_range ns from to)
sizes-range ns from to all = All-take IsSize (to - from) (drop from ns) (All-drop IsSize from ns all)

-- a part of all items
pub joined-total : (lists : List (List ℤ)) (from to first : ℕ) → from ≤ to → first ≡ total (take from (lengths lists)) → first + total (slice_range (lengths lists) from to) ≤ length (joined lists)
joined-total lists from to first h f =
    let whole : total (lengths lists) ≡ length (joined lists) = total-lengths lists in
    let part = total-part (lengths lists) from to h in
    let rest : total (lengths lists) ≡ total (take to (lengths lists)) + total (drop to (lengths lists)) = ap total (sym (take-append-drop to (lengths lists))) ∙ total-append (take to (lengths lists)) (drop to (lengths lists)) in
    omega (arith, whole, part, rest)

pub cut-range : (lists : List (List ℤ)) (from to : ℕ) (sizes numbers : List ℤ) → sizes ≡ slice_range (lengths lists) from to → numbers ≡ joined (slice_range lists from to) → cut sizes numbers ≡ slice_range lists from to
cut-range lists from to sizes numbers s n =
    ap (λ z. cut z numbers) (s ∙ lengths-range lists from to) ∙ ap (cut (lengths (slice_range lists from to))) n ∙ cut-joined (slice_range lists from to)

-- where a row's items begin
pub start-is : (lists : List (List ℤ)) (starts lent : List ℕ) (row sum : ℕ) (sizes : List ℤ) → AreStarts (lengths lists) starts → lent ≡ starts → row ≤ length lists
    → sizes ≡ slice_range (lengths lists) (128 * (row / 128)) row → sum ≡ total sizes → get_or lent (row / 128) 0 + sum ≡ total (take row (lengths lists))
start-is lists starts lent row sum sizes h l within s t =
    let k = row / 128 in
    let inside : k < length starts = omega (arith, h.count, length-map lists (λ (xs : List ℤ). pos (length xs))) in
    let one : get_or lent k 0 ≡ total (take (128 * k) (lengths lists)) = ap (λ z. get_or z k 0) l ∙ h.each k inside in
    omega (arith, one, t, ap total s, total-part (lengths lists) (128 * k) row (omega arith))

pub start-few : (lists : List (List ℤ)) (row : ℕ) → Each IsShort lists → total (take row (lengths lists)) ≤ longest_list * length lists
start-few lists row short =
    let all = All-take IsSize row (lengths lists) (lengths-sizes lists short) in
    omega (arith, total-few (take row (lengths lists)) all, length-take row (lengths lists), length-map lists (λ (xs : List ℤ). pos (length xs)))

pub joined-few : (lists : List (List ℤ)) → Each IsShort lists → length (joined lists) ≤ longest_list * length lists
joined-few lists short = omega (arith, total-lengths lists, total-few (lengths lists) (lengths-sizes lists short), length-map lists (λ (xs : List ℤ). pos (length xs)))

pub cut-enough : (lists : List (List ℤ)) (from to : ℕ) (sizes numbers : List ℤ) → sizes ≡ slice_range (lengths lists) from to → numbers ≡ joined (slice_range lists from to) → total sizes ≤ length numbers
cut-enough lists from to sizes numbers s n = omega (arith, ap total (s ∙ lengths-range lists from to), total-lengths (slice_range lists from to), ap (λ (z : List ℤ). length z) n)

-- the items of a range of lists, by what each step of reading says
pub range-numbers : (lists : List (List ℤ)) (from to first sum : ℕ) (sizes lent-sizes lent numbers : List ℤ) → first ≡ total (take from (lengths lists)) → sum ≡ total lent-sizes → lent-sizes ≡ sizes
    → sizes ≡ slice_range (lengths lists) from to → lent ≡ numbers → numbers ≡ slice_range (joined lists) first (first + sum) → lent ≡ joined (slice_range lists from to)
range-numbers lists from to first sum sizes lent-sizes lent numbers f s a b l e =
    let last : first + sum ≡ first + total (slice_range (lengths lists) from to) = omega (arith, s, ap total (a ∙ b)) in
    l ∙ e ∙ joined-range lists from to first (first + sum) f last
