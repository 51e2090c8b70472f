-- Sides of rows, by runs.
use Rattle.std.specs.Prelude.{◌≡◌, ℕ, ℤ, zero, suc, int_lt, ◌+◌, ◌<◌, ◌≤◌, Bool, true, false, cond, List, [], ◌∷◌, ◌++◌, length, map, reverse, take, drop, replicate}
use Rattle.std.specs.List.{slice_get}
use Rattle.std.proofs.Common.{refl, ap, sym, ◌∙◌, arith, append_assoc, get_or, drop-cons}
use Rattle.std.proofs.lemmas.List.{reverse-append}
use Rattle.index_segment.specs.declared.shares.Counts.{Counts}
use Rattle.index_segment.specs.Merging.{Side, First, Second, counts_of, sides, sides_by_time, picked}
use Rattle.index_segment.specs.Turns.{count_later, count_since}

-- ---- runs of a series

-- the rows of the first list that come next
run_of_first : (xs ys : List ℤ) → sides_by_time xs ys ≡ replicate (count_later (slice_get ys 0) xs) First ++ sides_by_time (drop (count_later (slice_get ys 0) xs) xs) ys
run_of_first [] [] = refl
run_of_first [] (y ∷ ys) = refl
run_of_first (x ∷ xs) [] = ap (λ ss. First ∷ ss) (run_of_first xs [])
run_of_first (x ∷ xs) (y ∷ ys) = go (int_lt y x) refl (run_of_first xs (y ∷ ys))
  where
    go : (b : Bool) → int_lt y x ≡ b → sides_by_time xs (y ∷ ys) ≡ replicate (count_later (slice_get (y ∷ ys) 0) xs) First ++ sides_by_time (drop (count_later (slice_get (y ∷ ys) 0) xs) xs) (y ∷ ys) → cond b (First ∷ sides_by_time xs (y ∷ ys)) (Second ∷ sides_by_time (x ∷ xs) ys) ≡ replicate (cond b (suc (count_later (slice_get (y ∷ ys) 0) xs)) 0) First ++ sides_by_time (drop (cond b (suc (count_later (slice_get (y ∷ ys) 0) xs)) 0) (x ∷ xs)) (y ∷ ys)
    go true is later = ap (λ ss. First ∷ ss) later
    go false is later = ap (λ b. cond b (First ∷ sides_by_time xs (y ∷ ys)) (Second ∷ sides_by_time (x ∷ xs) ys)) (sym is)

-- the rows of the second list that come next
run_of_second : (xs ys : List ℤ) → sides_by_time xs ys ≡ replicate (count_since (slice_get xs 0) ys) Second ++ sides_by_time xs (drop (count_since (slice_get xs 0) ys) ys)
run_of_second [] [] = refl
run_of_second [] (y ∷ ys) = ap (λ ss. Second ∷ ss) (run_of_second [] ys)
run_of_second (x ∷ xs) [] = refl
run_of_second (x ∷ xs) (y ∷ ys) = go (int_lt y x) refl (run_of_second (x ∷ xs) ys)
  where
    go : (b : Bool) → int_lt y x ≡ b → sides_by_time (x ∷ xs) ys ≡ replicate (count_since (slice_get (x ∷ xs) 0) ys) Second ++ sides_by_time (x ∷ xs) (drop (count_since (slice_get (x ∷ xs) 0) ys) ys) → cond b (First ∷ sides_by_time xs (y ∷ ys)) (Second ∷ sides_by_time (x ∷ xs) ys) ≡ replicate (cond b 0 (suc (count_since (slice_get (x ∷ xs) 0) ys))) Second ++ sides_by_time (x ∷ xs) (drop (cond b 0 (suc (count_since (slice_get (x ∷ xs) 0) ys))) (y ∷ ys))
    go true is later = ap (λ b. cond b (First ∷ sides_by_time xs (y ∷ ys)) (Second ∷ sides_by_time (x ∷ xs) ys)) (sym is)
    go false is later = ap (λ ss. Second ∷ ss) later

-- one turn
pub one_turn : (xs ys rest : List ℤ) (n m : ℕ) → n ≡ count_later (slice_get ys 0) xs → rest ≡ drop n xs → m ≡ count_since (slice_get rest 0) ys → sides_by_time xs ys ≡ replicate n First ++ (replicate m Second ++ sides_by_time rest (drop m ys))
one_turn xs ys rest n m n_is rest_is m_is =
    run_of_first xs ys
    ∙ (ap (λ k. replicate k First ++ sides_by_time (drop k xs) ys) (sym n_is)
    ∙ ap (λ ss. replicate n First ++ ss) (ap (λ zs. sides_by_time zs ys) (sym rest_is) ∙ (run_of_second rest ys ∙ ap (λ k. replicate k Second ++ sides_by_time rest (drop k ys)) (sym m_is))))

-- ---- turns

pub sides_with : (cs : List Counts) (c : Counts) (rest : List Side) → sides (cs ++ c ∷ []) ++ rest ≡ sides cs ++ (replicate c.first First ++ (replicate c.second Second ++ rest))
sides_with [] c rest = append_assoc (replicate c.first First) (replicate c.second Second ++ []) rest ∙ ap (λ ss. replicate c.first First ++ ss) (append_assoc (replicate c.second Second) [] rest)
sides_with (d ∷ cs) c rest =
    let front = replicate d.first First in
    let back = replicate d.second Second in
    append_assoc front (back ++ sides (cs ++ c ∷ [])) rest
    ∙ (ap (λ ss. front ++ ss) (append_assoc back (sides (cs ++ c ∷ [])) rest ∙ (ap (λ ss. back ++ ss) (sides_with cs c rest) ∙ sym (append_assoc back (sides cs) (replicate c.first First ++ (replicate c.second Second ++ rest)))))
    ∙ sym (append_assoc front (back ++ sides cs) (replicate c.first First ++ (replicate c.second Second ++ rest))))

-- ---- elements by sides

pub picked_first : {A : Type 0} (n : ℕ) (ss : List Side) (xs ys : List A) → picked (replicate n First ++ ss) xs ys ≡ take n xs ++ picked ss (drop n xs) ys
picked_first zero ss xs ys = refl
picked_first (suc n) ss [] ys = picked_first n ss [] ys ∙ nothing n
  where
    nothing : (n : ℕ) → take n [] ++ picked ss (drop n []) ys ≡ picked ss [] ys
    nothing zero = refl
    nothing (suc n) = refl
picked_first (suc n) ss (x ∷ xs) ys = ap (λ rest. x ∷ rest) (picked_first n ss xs ys)

pub picked_second : {A : Type 0} (n : ℕ) (ss : List Side) (xs ys : List A) → picked (replicate n Second ++ ss) xs ys ≡ take n ys ++ picked ss xs (drop n ys)
picked_second zero ss xs ys = refl
picked_second (suc n) ss xs [] = picked_second n ss xs [] ∙ nothing n
  where
    nothing : (n : ℕ) → take n [] ++ picked ss xs (drop n []) ≡ picked ss xs []
    nothing zero = refl
    nothing (suc n) = refl
picked_second (suc n) ss xs (y ∷ ys) = ap (λ rest. y ∷ rest) (picked_second n ss xs ys)

pub picked_map : {A B : Type 0} (f : A → B) (ss : List Side) (xs ys : List A) → map f (picked ss xs ys) ≡ picked ss (map f xs) (map f ys)
picked_map f [] xs ys = refl
picked_map f (First ∷ ss) [] ys = picked_map f ss [] ys
picked_map f (First ∷ ss) (x ∷ xs) ys = ap (λ rest. f x ∷ rest) (picked_map f ss xs ys)
picked_map f (Second ∷ ss) xs [] = picked_map f ss xs []
picked_map f (Second ∷ ss) xs (y ∷ ys) = ap (λ rest. f y ∷ rest) (picked_map f ss xs ys)

-- ---- moved from the end of a list

one_more : {A : Type 0} (n : ℕ) (all rest : List A) (x : A) → drop n all ≡ x ∷ rest → (drop (suc n) all ≡ rest) × (take (suc n) all ≡ take n all ++ x ∷ [])
one_more n [] rest x is = absurd (none n is)
  where
    none : (n : ℕ) → drop n [] ≡ x ∷ rest → ⊥
    none zero is = cc
    none (suc n) is = cc
one_more zero (y ∷ all) rest x is = (cc, cc)
one_more (suc n) (y ∷ all) rest x is =
    let more = one_more n all rest x is in
    (more.0, ap (λ ys. y ∷ ys) more.1)

pub popped : {A : Type 0} (n : ℕ) (all from left : List A) (x : A) → from ≡ left ++ x ∷ [] → reverse from ≡ drop n all → (reverse left ≡ drop (n + 1) all) × (take (n + 1) all ≡ take n all ++ x ∷ [])
popped n all from left x is ahead =
    let more = one_more n all (reverse left) x (sym ahead ∙ (ap reverse is ∙ reverse-append left (x ∷ []))) in
    let next : suc n ≡ n + 1 = omega arith in
    (sym more.0 ∙ ap (λ k. drop k all) next, ap (λ k. take k all) (sym next) ∙ more.1)

past_all : {A : Type 0} (n count : ℕ) (all : List A) → drop n all ≡ [] → n ≤ count → (drop count all ≡ []) × (take count all ≡ take n all)
past_all {A} n count [] is within = (nothing count, nothing_taken count ∙ sym (nothing_taken n))
  where
    nothing : (n : ℕ) → drop {A = A} n [] ≡ []
    nothing zero = refl
    nothing (suc n) = refl

    nothing_taken : (n : ℕ) → take {A = A} n [] ≡ []
    nothing_taken zero = refl
    nothing_taken (suc n) = refl
past_all zero count (x ∷ all) is within = absurd cc
past_all (suc n) zero (x ∷ all) is within = absurd (omega (arith, within))
past_all (suc n) (suc count) (x ∷ all) is within =
    let rest = past_all n count all is (omega (arith, within)) in
    (rest.0, ap (λ ys. x ∷ ys) rest.1)

pub nothing_left : {A : Type 0} (n count : ℕ) (all from : List A) → from ≡ [] → reverse from ≡ drop n all → n ≤ count → (drop count all ≡ []) × (take count all ≡ take n all)
nothing_left n count all from none ahead within = past_all n count all (sym ahead ∙ ap reverse none) within

-- one turn goes from what is left to what was found
pub turn_pushed : (new old : List Counts) (all : List Side) (c : Counts) (xs ys behind beyond : List ℤ) (n m : ℕ) → new ≡ old ++ c ∷ [] → c.first ≡ n → c.second ≡ m → n ≡ count_later (slice_get ys 0) xs → behind ≡ drop n xs → m ≡ count_since (slice_get behind 0) ys → beyond ≡ drop m ys → sides old ++ sides_by_time xs ys ≡ all → sides new ++ sides_by_time behind beyond ≡ all
turn_pushed new old all c xs ys behind beyond n m new_is n_at m_at n_is behind_is m_is beyond_is whole =
    ap (λ cs. sides cs ++ sides_by_time behind beyond) new_is
    ∙ (sides_with old c (sides_by_time behind beyond)
    ∙ (ap (λ k. sides old ++ (replicate k First ++ (replicate c.second Second ++ sides_by_time behind beyond))) n_at
    ∙ (ap (λ k. sides old ++ (replicate n First ++ (replicate k Second ++ sides_by_time behind beyond))) m_at
    ∙ (ap (λ zs. sides old ++ (replicate n First ++ (replicate m Second ++ sides_by_time behind zs))) beyond_is
    ∙ (ap (λ ss. sides old ++ ss) (sym (one_turn xs ys behind n m n_is behind_is m_is)) ∙ whole)))))

-- one turn goes from both lists to what was found
pub turn_moved : {A : Type 0} (turns : List Counts) (k : ℕ) (there : k < length turns) (whole all between new first first' second second' : List A) → between ≡ all ++ take (get_or turns k (counts_of 0 0)).first (reverse first) → reverse first' ≡ drop (get_or turns k (counts_of 0 0)).first (reverse first) → new ≡ between ++ take (get_or turns k (counts_of 0 0)).second (reverse second) → reverse second' ≡ drop (get_or turns k (counts_of 0 0)).second (reverse second) → all ++ picked (sides (drop k turns)) (reverse first) (reverse second) ≡ whole → new ++ picked (sides (drop (k + 1) turns)) (reverse first') (reverse second') ≡ whole
turn_moved turns k there whole all between new first first' second second' between_is first_is new_is second_is ahead =
    let c = get_or turns k (counts_of 0 0) in
    let rest = sides (drop (k + 1) turns) in
    let n = c.first in
    let m = c.second in
    let next : suc k ≡ k + 1 = omega arith in
    let opened : drop k turns ≡ c ∷ drop (k + 1) turns = drop-cons turns k (counts_of 0 0) there ∙ ap (λ i. c ∷ drop i turns) next in
    ap (λ xs. xs ++ picked rest (reverse first') (reverse second')) (new_is ∙ ap (λ xs. xs ++ take m (reverse second)) between_is)
    ∙ (append_assoc (all ++ take n (reverse first)) (take m (reverse second)) (picked rest (reverse first') (reverse second'))
    ∙ (append_assoc all (take n (reverse first)) (take m (reverse second) ++ picked rest (reverse first') (reverse second'))
    ∙ (ap (λ xs. all ++ (take n (reverse first) ++ xs)) (ap (λ ys. take m (reverse second) ++ picked rest (reverse first') ys) second_is ∙ (ap (λ xs. take m (reverse second) ++ picked rest xs (drop m (reverse second))) first_is ∙ sym (picked_second m rest (drop n (reverse first)) (reverse second))))
    ∙ (ap (λ xs. all ++ xs) (sym (picked_first n (replicate m Second ++ rest) (reverse first) (reverse second)))
    ∙ (ap (λ cs. all ++ picked (sides cs) (reverse first) (reverse second)) (sym opened) ∙ ahead)))))
