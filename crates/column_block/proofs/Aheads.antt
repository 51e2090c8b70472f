-- Columns that begin with which rows have a value.
use Rattle.std.proofs.Common.{◌≡◌, ℕ, ℤ, ◌+◌, ◌-◌, ◌*◌, ◌≤◌, Bool, true, false, List, [], ◌∷◌, ◌++◌, length, take, drop, refl, sym, ◌∙◌, ap, arith}
use Rattle.std.specs.Prelude.{Option, slice_range}
use Rattle.std.specs.Int.{div_ceil}
use Rattle.std.specs.Option.{is_some}
use Rattle.std.proofs.lemmas.List.{length-map, take-map, drop-map, length-append, length-drop, length-take, drop-take, append_assoc}
use Rattle.std.proofs.Math.Seq.{take-add}
use Rattle.column_pack.specs.Digits.{bytes_for}
use Rattle.column_block.specs.Presence.{presence, present, flags_of, flags_in, ones, spread}
use Rattle.column_block.specs.Spelling.{IsAhead}
use Rattle.packed_lists.specs.Laws.Fronts.{take-front, drop-front}
use Rattle.column_block.proofs.Presences.{length-presence, flags-are, present-take, present-drop, length-present, flags-take, length-flags, ones-append}

-- which rows have a value, by the bytes
pub flags-known : {A : Type 0} (rows : ℕ) (bytes : List ℕ) (vs : List (Option A)) (lists : List (List ℤ)) → length vs ≡ rows → IsAhead (presence (flags_of vs)) lists bytes → flags_in rows bytes ≡ flags_of vs
flags-known rows bytes vs lists n (rest, g, e) = ap (λ z. flags_in z bytes) (sym (length-map vs is_some ∙ n)) ∙ flags-are (flags_of vs) bytes rest e

pub long-enough : {A : Type 0} (bytes : List ℕ) (vs : List (Option A)) (lists : List (List ℤ)) → IsAhead (presence (flags_of vs)) lists bytes → length vs ≤ 8 * length bytes
long-enough bytes vs lists (rest, g, e) = omega (arith, ap (λ (z : List ℕ). length z) e, length-append (presence (flags_of vs)) rest, length-presence (flags_of vs), length-map vs is_some)

-- the same of a column that is being written
pub built-long : {A : Type 0} (vs : List (Option A)) (old mid now again nums : List ℕ) → old ≡ [] → mid ≡ old ++ presence (flags_of vs) → now ≡ mid ++ nums → again ≡ now → length vs ≤ 8 * length again
built-long vs old mid now again nums a b f g =
    let e : again ≡ presence (flags_of vs) ++ nums = g ∙ f ∙ ap (λ z. z ++ nums) (b ∙ ap (λ z. z ++ presence (flags_of vs)) a) in
    omega (arith, ap (λ (z : List ℕ). length z) e, length-append (presence (flags_of vs)) nums, length-presence (flags_of vs), length-map vs is_some)

-- how many of the first rows have a value
pub count-to : {A : Type 0} (rows row : ℕ) (bytes : List ℕ) (vs : List (Option A)) → length vs ≡ rows → flags_in rows bytes ≡ flags_of vs → row ≤ rows → ones (flags_in row bytes) ≡ length (present (take row vs))
count-to rows row bytes vs n f h = ap ones (sym (flags-take rows row bytes h) ∙ ap (take row) f ∙ take-map is_some row vs) ∙ sym (length-present (take row vs))

-- of more rows as many or more have a value
pub count-order : {A : Type 0} (vs : List (Option A)) (from to : ℕ) → from ≤ to → length (present (take to vs)) ≡ length (present (take from vs)) + length (present (slice_range vs from to))
count-order vs from to h =
    let e : from + (to - from) ≡ to = omega arith in
    let s : take to vs ≡ take from vs ++ slice_range vs from to = ap (λ z. take z vs) (sym e) ∙ take-add from (to - from) vs in
    length-present (take to vs) ∙ ap (λ z. ones (flags_of z)) s ∙ ap ones (map-both (take from vs) (slice_range vs from to)) ∙ ones-append (flags_of (take from vs)) (flags_of (slice_range vs from to))
    ∙ ap (λ z. z + ones (flags_of (slice_range vs from to))) (sym (length-present (take from vs))) ∙ ap (λ z. length (present (take from vs)) + z) (sym (length-present (slice_range vs from to)))
  where
    map-both : {B : Type 0} (a b : List (Option B)) → flags_of (a ++ b) ≡ flags_of a ++ flags_of b
    map-both [] b = refl
    map-both (x ∷ a) b = ap (λ z. is_some x ∷ z) (map-both a b)

pub count-whole : {A : Type 0} (vs : List (Option A)) (to : ℕ) → length (present (take to vs)) ≤ length (present vs)
count-whole vs to = omega (arith, ap (λ (z : List _). length z) (present-take to vs), length-take (ones (take to (flags_of vs))) (present vs))

-- the values of a range of rows
pub range-values : {A : Type 0} (vs : List (Option A)) (from to : ℕ) → from ≤ to → slice_range (present vs) (length (present (take from vs))) (length (present (take to vs))) ≡ present (slice_range vs from to)
range-values vs from to h =
    let a = length (present (take from vs)) in
    let n = to - from in
    let ws = slice_range vs from to in
    let an : a ≡ ones (take from (flags_of vs)) = length-present (take from vs) ∙ ap ones (sym (take-map is_some from vs)) in
    let more : length (present (take to vs)) - a ≡ ones (take n (flags_of (drop from vs))) =
    (let r : length (present (take to vs)) - a ≡ length (present ws) = omega (arith, count-order vs from to h) in r ∙ length-present ws ∙ ap ones (sym (take-map is_some n (drop from vs)))) in
    ap (λ z. take z (drop a (present vs))) more ∙ ap (λ z. take (ones (take n (flags_of (drop from vs)))) (drop z (present vs))) an
    ∙ ap (take (ones (take n (flags_of (drop from vs))))) (sym (present-drop from vs)) ∙ sym (present-take n (drop from vs))

-- which rows of a range have a value
pub range-flags : {A : Type 0} (rows from to : ℕ) (bytes : List ℕ) (vs : List (Option A)) → flags_in rows bytes ≡ flags_of vs → from ≤ to → to ≤ rows → drop from (flags_in to bytes) ≡ flags_of (slice_range vs from to)
range-flags rows from to bytes vs f order h =
    let e : from + (to - from) ≡ to = omega arith in
    ap (drop from) (sym (flags-take rows to bytes h) ∙ ap (take to) f)
    ∙ ap (λ z. drop from (take z (flags_of vs))) (sym e) ∙ drop-take from (to - from) (flags_of vs)
    ∙ ap (take (to - from)) (drop-map is_some from vs) ∙ take-map is_some (to - from) (drop from vs)

-- ---- reading

pub flags-spread : {A : Type 0} (fs : List Bool) (xs : List A) → length xs ≡ ones fs → flags_of (spread fs xs) ≡ fs
flags-spread [] xs n = refl
flags-spread (false ∷ fs) xs n = ap (λ z. false ∷ z) (flags-spread fs xs n)
flags-spread (true ∷ fs) [] n = absurd (omega arith)
flags-spread (true ∷ fs) (x ∷ xs) n = ap (λ z. true ∷ z) (flags-spread fs xs (omega arith))

pub present-spread : {A : Type 0} (fs : List Bool) (xs : List A) → length xs ≡ ones fs → present (spread fs xs) ≡ xs
present-spread [] [] n = refl
present-spread [] (x ∷ xs) n = absurd (omega arith)
present-spread (false ∷ fs) xs n = present-spread fs xs n
present-spread (true ∷ fs) [] n = absurd (omega arith)
present-spread (true ∷ fs) (x ∷ xs) n = ap (λ z. x ∷ z) (present-spread fs xs (omega arith))

-- what was found behind a front
pub found-behind : (bytes front nums rest : List ℕ) (size end : ℕ) → bytes ≡ front ++ rest → size ≡ length front → drop size bytes ≡ nums ++ drop end bytes → end ≤ length bytes → take end bytes ≡ front ++ nums
found-behind bytes front nums rest size end e n behind within =
    let whole : bytes ≡ (front ++ nums) ++ drop end bytes =
    e ∙ ap (λ z. front ++ z) (sym (drop-front bytes front rest size e n) ∙ behind) ∙ sym (append_assoc front nums (drop end bytes)) in
    let m : end ≡ length (front ++ nums) = omega (arith, ap (λ (z : List ℕ). length z) whole, length-append (front ++ nums) (drop end bytes), length-drop end bytes, within) in
    take-front bytes (front ++ nums) (drop end bytes) end whole m

pub presence-size : (rows : ℕ) (bytes : List ℕ) → div_ceil rows 8 ≡ length (presence (flags_in rows bytes))
presence-size rows bytes = omega (arith, length-presence (flags_in rows bytes), length-flags rows bytes)

pub front-long : (rows : ℕ) (bytes rest : List ℕ) → bytes ≡ presence (flags_in rows bytes) ++ rest → bytes_for rows ≤ length bytes
front-long rows bytes rest e = omega (arith, ap (λ (z : List ℕ). length z) e, length-append (presence (flags_in rows bytes)) rest, length-presence (flags_in rows bytes), length-flags rows bytes)
