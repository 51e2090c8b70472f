-- The bits of rows.
use Rattle.std.proofs.Common.{◌≡◌, ℕ, suc, zero, ◌+◌, ◌-◌, ◌*◌, ◌/◌, ◌%◌, ◌^◌, ◌<◌, ◌≤◌, Bool, true, false, List, [], ◌∷◌, ◌++◌, length, get_or, take, drop, map, refl, sym, ◌∙◌, ap, subst, arith, inl, inr}
use Rattle.std.specs.Prelude.{Option, Some, None, nat_eq, min}
use Rattle.std.specs.Int.{bit_at, div_ceil}
use Rattle.std.specs.Option.{is_some}
use Rattle.std.specs.List.{All}
use Rattle.std.proofs.lemmas.Bool.{cases_lt}
use mathlib.Core.Bool.{not}
use Rattle.std.proofs.lemmas.List.{length-map, length-take, length-drop, take-append-drop, take-map, drop-map, take_all, drop_all, ext_get_or, length-append, length-take-le, get_or_append_left, get_or-map, append_assoc, append-nil, drop_more, take_more, drop-drop}
use Rattle.std.proofs.lemmas.List.Elements.{All-nil, All-cons, All-head, All-tail, All-drop, All-take}
use Rattle.std.proofs.lemmas.List.FromFn.{length-map-range_with_len, get_or-map-range_with_len, map-range_with_len_more, take-map-range_with_len}
use Rattle.std.proofs.Math.Nat.{add-mul-mod_self_left, mod-eq_of_lt, add-mul-div_left, div-eq_of_lt, div-one, mod-one, pow-le-pow_right}
use Rattle.std.proofs.Math.Seq.{get_or-append_seam, take-append_seam}
use Rattle.column_pack.specs.Digits.{number, digits, stream, bytes_for}
use Rattle.column_pack.specs.Laws.Numbers.{number-append, number-lt, length-digits, digits-number, number-digits, digits-below}
use Rattle.column_pack.specs.Laws.Layouts.{length-stream, number-stream, stream-number}
use Rattle.column_pack.specs.Laws.StreamBits.{stream-bits}
use Rattle.column_block.specs.Presence.{bit, presence, flags_of, is_set, flags_in, ones, present, spread}

pub bits-below : (fs : List Bool) → All (λ r. r < 2) (map bit fs)
bits-below [] = All-nil (λ r. r < 2)
bits-below (true ∷ fs) = All-cons (λ r. r < 2) 1 (map bit fs) (omega arith) (bits-below fs)
bits-below (false ∷ fs) = All-cons (λ r. r < 2) 0 (map bit fs) (omega arith) (bits-below fs)

pub length-presence : (fs : List Bool) → length (presence fs) ≡ bytes_for (length fs)
length-presence fs = length-stream 1 (map bit fs) ∙ ap bytes_for (omega (arith, length-map fs bit))

-- ---- putting

-- the first eight, or all of fewer
pub take-least : {A : Type 0} (n : ℕ) (xs : List A) → take (min (length xs) n) xs ≡ take n xs
take-least n xs = elim (cases_lt n (length xs)) [
  | inl few ↦ (let e : min (length xs) n ≡ n = omega arith in ap (λ z. take z xs) e)
  | inr all ↦ (let e : min (length xs) n ≡ length xs = omega arith in ap (λ z. take z xs) e ∙ take_all (length xs) xs (omega arith) ∙ sym (take_all n xs all))
]

pub drop-least : {A : Type 0} (n : ℕ) (xs : List A) → drop (min (length xs) n) xs ≡ drop n xs
drop-least n xs = elim (cases_lt n (length xs)) [
  | inl few ↦ (let e : min (length xs) n ≡ n = omega arith in ap (λ z. drop z xs) e)
  | inr all ↦ (let e : min (length xs) n ≡ length xs = omega arith in ap (λ z. drop z xs) e ∙ drop_all (length xs) xs (omega arith) ∙ sym (drop_all n xs all))
]

first-byte : (a b c : ℕ) → a < 256 → digits 256 (suc c) (a + 256 * b) ≡ a ∷ digits 256 c b
first-byte a b c small =
    let m : (a + 256 * b) % 256 ≡ a = add-mul-mod_self_left a 256 b ∙ mod-eq_of_lt small in
    let d : (a + 256 * b) / 256 ≡ b = add-mul-div_left a b (omega arith) ∙ ap (λ z. z + b) (div-eq_of_lt small) ∙ omega arith in
    rw (m, d) refl

byte-below : (xs : List ℕ) → All (λ r. r < 2) xs → length xs ≤ 8 → number 2 xs < 256
byte-below xs all few = let p : 2 ^ length xs ≤ 2 ^ 8 = pow-le-pow_right (omega arith) few in omega (arith, number-lt 2 xs all, p)

-- eight rows are a byte, and the others are the others' bytes
pub presence-step : (fs : List Bool) → 0 < length fs → presence fs ≡ number 2 (map bit (take 8 fs)) ∷ presence (drop 8 fs)
unfolding stream
presence-step fs some =
    let bits = map bit fs in
    let a = map bit (take 8 fs) in
    let b = map bit (drop 8 fs) in
    let n : length bits ≡ length fs = length-map fs bit in
    let whole : bits ≡ a ++ b = sym (take-append-drop 8 bits) ∙ ap (λ z. z ++ drop 8 bits) (take-map bit 8 fs) ∙ ap (λ z. a ++ z) (drop-map bit 8 fs) in
    let la : length a ≡ min 8 (length fs) = length-map (take 8 fs) bit ∙ length-take 8 fs in
    let lb : length b ≡ length fs - 8 = length-map (drop 8 fs) bit ∙ length-drop 8 fs in
    let few : length a ≤ 8 = omega arith in
    let small : number 2 a < 256 = byte-below a (bits-below (take 8 fs)) few in
    let value : number 2 bits ≡ number 2 a + 256 * number 2 b = ap (number 2) whole ∙ number-append 2 a b ∙ power a (drop 8 fs) la lb in
    let count : bytes_for (length bits * 1) ≡ suc (bytes_for (length b * 1)) = omega arith in
    rw (count, value) (first-byte (number 2 a) (number 2 b) (bytes_for (length b * 1)) small)
  where
    power : (a : List ℕ) (rest : List Bool) → length a ≡ min 8 (length fs) → length (map bit rest) ≡ length fs - 8 → number 2 a + 2 ^ length a * number 2 (map bit rest) ≡ number 2 a + 256 * number 2 (map bit rest)
    power a [] la lb = omega arith
    power a (r ∷ rest) la lb = let e : length a ≡ 8 = omega arith in rw e refl

-- ---- reading

pub length-flags : (rows : ℕ) (bytes : List ℕ) → length (flags_in rows bytes) ≡ rows
unfolding flags_in
length-flags rows bytes = length-map-range_with_len (is_set bytes) 0 rows

pub flag-at : (rows : ℕ) (bytes : List ℕ) (k : ℕ) (d : Bool) → k < rows → get_or (flags_in rows bytes) k d ≡ is_set bytes k
unfolding flags_in
flag-at rows bytes k d h = get_or-map-range_with_len (is_set bytes) 0 rows k k d h (omega arith)

pub flags-more : (row : ℕ) (bytes : List ℕ) → flags_in (row + 1) bytes ≡ flags_in row bytes ++ is_set bytes row ∷ []
unfolding flags_in
flags-more row bytes = map-range_with_len_more (is_set bytes) 0 row row (omega arith)

pub flags-take : (rows row : ℕ) (bytes : List ℕ) → row ≤ rows → take row (flags_in rows bytes) ≡ flags_in row bytes
unfolding flags_in
flags-take rows row bytes h = take-map-range_with_len (is_set bytes) 0 rows row h

one-bit : (b : Bool) → nat_eq (bit b % 2) 1 ≡ b
one-bit true = refl
one-bit false = refl

-- bits that the bytes begin with
pub flags-are : (fs : List Bool) (bytes rest : List ℕ) → bytes ≡ presence fs ++ rest → flags_in (length fs) bytes ≡ fs
flags-are fs bytes rest e = ext_get_or false (flags_in (length fs) bytes) fs (length-flags (length fs) bytes) (λ k h. same k (subst (λ z. k < z) (length-flags (length fs) bytes) h))
  where
    same : (k : ℕ) → k < length fs → get_or (flags_in (length fs) bytes) k false ≡ get_or fs k false
    same k h =
        let n : length (map bit fs) ≡ length fs = length-map fs bit in
        let l : k / 8 < length (presence fs) = omega (arith, length-presence fs) in
        let byte : get_or bytes (k / 8) 0 ≡ get_or (presence fs) (k / 8) 0 = ap (λ z. get_or z (k / 8) 0) e ∙ get_or_append_left (presence fs) rest 0 (k / 8) l in
        let one : k / 1 ≡ k = div-one k in
        let none : k % 1 ≡ 0 = mod-one k in
        let is : bit_at (get_or bytes (k / 8) 0) (k % 8) ≡ bit (get_or fs k false) % 2 =
        ap (λ z. bit_at z (k % 8)) byte
        ∙ stream-bits 1 (map bit fs) k (bits-below fs) (omega arith)
        ∙ ap (λ z. bit_at (get_or (map bit fs) z 0) (k % 1)) one
        ∙ ap (bit_at (get_or (map bit fs) k 0)) none
        ∙ ap (λ z. z / 1 % 2) (get_or-map bit fs k false 0 h)
        ∙ ap (λ z. z % 2) (div-one (bit (get_or fs k false))) in
        flag-at (length fs) bytes k false h ∙ ap (λ z. nat_eq z 1) is ∙ one-bit (get_or fs k false)

bit-again : (d : ℕ) → d < 2 → bit (nat_eq d 1) ≡ d
bit-again zero h = refl
bit-again (suc zero) h = refl
bit-again (suc (suc d)) h = absurd (omega arith)

bits-again : (xs : List ℕ) → All (λ r. r < 2) xs → map bit (map (λ d. nat_eq d 1) xs) ≡ xs
bits-again [] all = refl
bits-again (x ∷ xs) all =
    ap (λ z. z ∷ map bit (map (λ d. nat_eq d 1) xs)) (bit-again x (All-head (λ r. r < 2) x xs all)) ∙ ap (λ z. x ∷ z) (bits-again xs (All-tail (λ r. r < 2) x xs all))

-- bytes without spare bits are some rows' bits
pub some-flags : (s : List ℕ) (rows : ℕ) → All (λ x. x < 256) s → length s ≡ bytes_for rows → number 256 s < 2 ^ rows → (fs : List Bool) × (length fs ≡ rows) × (s ≡ presence fs)
unfolding stream
some-flags s rows all l h =
    let ds = digits 2 rows (number 256 s) in
    let fs = map (λ d. nat_eq d 1) ds in
    let bits : map bit fs ≡ ds = bits-again ds (digits-below 2 rows (number 256 s) (omega arith)) in
    let n : number 2 ds ≡ number 256 s = number-digits 2 rows (number 256 s) h in
    let ld : length ds ≡ rows = length-digits 2 rows (number 256 s) in
    let len : bytes_for (length (map bit fs) * 1) ≡ length s = ap (λ (z : List ℕ). bytes_for (length z * 1)) bits ∙ omega arith in
    (fs, length-map ds (λ d. nat_eq d 1) ∙ ld, sym (rw (len, bits, n) (digits-number 256 s (omega arith) all)))

-- rows' bits have none to spare
pub none-spare : (fs : List Bool) → number 256 (presence fs) < 2 ^ length fs
none-spare fs =
    let n : length (map bit fs) * 1 ≡ length fs = omega (arith, length-map fs bit) in
    subst (λ z. number 256 (presence fs) < 2 ^ z) n (subst (λ z. z < 2 ^ (length (map bit fs) * 1)) (sym (number-stream 1 (map bit fs) (bits-below fs))) (stream-number 1 (map bit fs) (bits-below fs)))

-- ---- counting

pub ones-append : (a b : List Bool) → ones (a ++ b) ≡ ones a + ones b
ones-append [] b = omega arith
ones-append (true ∷ a) b = omega (arith, ones-append a b)
ones-append (false ∷ a) b = ones-append a b

ones-one : (b : Bool) → ones (b ∷ []) ≡ bit b
ones-one true = refl
ones-one false = refl

pub ones-more : (row : ℕ) (bytes : List ℕ) → ones (flags_in (row + 1) bytes) ≡ ones (flags_in row bytes) + bit (is_set bytes row)
ones-more row bytes = ap ones (flags-more row bytes) ∙ ones-append (flags_in row bytes) (is_set bytes row ∷ []) ∙ ap (λ z. ones (flags_in row bytes) + z) (ones-one (is_set bytes row))

pub ones-few : (fs : List Bool) → ones fs ≤ length fs
ones-few [] = omega arith
ones-few (true ∷ fs) = omega (arith, ones-few fs)
ones-few (false ∷ fs) = omega (arith, ones-few fs)

-- one number more of a list that is known at each place
pub each-more : (g : ℕ → ℕ) (xs : List ℕ) (y : ℕ) → ((k : ℕ) → k < length xs → get_or xs k 0 ≡ g k) → y ≡ g (length xs) → (k : ℕ) → k < length (xs ++ y ∷ []) → get_or (xs ++ y ∷ []) k 0 ≡ g k
each-more g xs y each last k h = elim (cases_lt k (length xs)) [
  | inl below ↦ get_or_append_left xs (y ∷ []) 0 k below ∙ each k below
  | inr at ↦ (let e : k ≡ length xs = omega (arith, length-append xs (y ∷ [])) in subst (λ z. get_or (xs ++ y ∷ []) z 0 ≡ g z) (sym e) (get_or-append_seam xs y [] 0 ∙ last))
]

pub bit-few : (b : Bool) → bit b ≤ 1
bit-few true = omega arith
bit-few false = omega arith

pub no-ones : (bytes : List ℕ) → ones (flags_in 0 bytes) ≡ 0
unfolding flags_in
no-ones bytes = refl

-- ---- a byte, from its last row on

length-bits : {A : Type 0} (rows : List (Option A)) → length (map bit (flags_of rows)) ≡ length rows
length-bits rows = length-map (flags_of rows) bit ∙ length-map rows is_some

pub byte-more : {A : Type 0} (rows : List (Option A)) (row : ℕ) (x : Option A) → row < length rows → x ≡ get_or rows (length rows - 1 - row) x
    → number 2 (drop (length rows - (row + 1)) (map bit (flags_of rows))) ≡ 2 * number 2 (drop (length rows - row) (map bit (flags_of rows))) + bit (is_some x)
byte-more rows row x h e =
    let bits = map bit (flags_of rows) in
    let i = length rows - 1 - row in
    let a : length rows - (row + 1) ≡ i = omega arith in
    let b : i + 1 ≡ length rows - row = omega arith in
    let one : get_or bits i 0 ≡ bit (is_some x) =
    get_or-map bit (flags_of rows) i false 0 (omega (arith, length-map rows is_some)) ∙ ap bit (get_or-map is_some rows i x false (omega arith)) ∙ ap (λ z. bit (is_some z)) (sym e) in
    ap (λ z. number 2 (drop z bits)) a ∙ ap (number 2) (drop_more bits i 0 (omega (arith, length-bits rows))) ∙ ap (λ z. get_or bits i 0 + 2 * number 2 (drop z bits)) b ∙ ap (λ z. z + 2 * number 2 (drop (length rows - row) bits)) one ∙ omega arith

pub byte-small : {A : Type 0} (rows : List (Option A)) (row : ℕ) → row ≤ length rows → row ≤ 8 → number 2 (drop (length rows - row) (map bit (flags_of rows))) < 256
byte-small rows row h few =
    let bits = map bit (flags_of rows) in
    byte-below (drop (length rows - row) bits) (All-drop (λ r. r < 2) (length rows - row) bits (bits-below (flags_of rows))) (omega (arith, length-drop (length rows - row) bits, length-bits rows))

pub presence-front : {A : Type 0} (old now whole : List ℕ) (left : List (Option A)) (byte : ℕ) → 0 < length left → byte ≡ number 2 (map bit (flags_of (take (min (length left) 8) left)))
    → old ++ presence (flags_of left) ≡ whole → (old ++ byte ∷ []) ++ presence (flags_of (drop (min (length left) 8) left)) ≡ whole
presence-front old now whole left byte some is e =
    let t : map bit (flags_of (take (min (length left) 8) left)) ≡ map bit (take 8 (flags_of left)) = ap (λ z. map bit (flags_of z)) (take-least 8 left) ∙ ap (map bit) (sym (take-map is_some 8 left)) in
    let d : flags_of (drop (min (length left) 8) left) ≡ drop 8 (flags_of left) = ap flags_of (drop-least 8 left) ∙ sym (drop-map is_some 8 left) in
    append_assoc old (byte ∷ []) (presence (flags_of (drop (min (length left) 8) left)))
    ∙ ap (λ z. old ++ z ∷ presence (flags_of (drop (min (length left) 8) left))) (is ∙ ap (number 2) t)
    ∙ ap (λ z. old ++ number 2 (map bit (take 8 (flags_of left))) ∷ presence z) d
    ∙ ap (λ z. old ++ z) (sym (presence-step (flags_of left) (omega (arith, length-map left is_some))))
    ∙ e

pub presence-end : {A : Type 0} (old whole : List ℕ) (left : List (Option A)) → length left ≤ 0 → old ++ presence (flags_of left) ≡ whole → old ≡ whole
unfolding stream
presence-end old whole [] none e = sym (append-nil old) ∙ e
presence-end old whole (x ∷ xs) none e = absurd (omega arith)

pub presence-found : (bytes : List ℕ) (rows size : ℕ) → size ≡ div_ceil rows 8 → size ≤ length bytes → All (λ x. x < 256) bytes → (2 ^ rows ≤ number 256 (take size bytes) → ⊥)
    → (rest : List ℕ) × (bytes ≡ presence (flags_in rows bytes) ++ rest)
presence-found bytes rows size e within all spare =
    let s = take size bytes in
    let l : length s ≡ bytes_for rows = length-take-le size bytes within ∙ omega arith in
    let small : number 256 s < 2 ^ rows = elim (cases_lt (number 256 s) (2 ^ rows)) [ inl h ↦ h | inr h ↦ absurd (spare h) ] in
    let (fs, n, is) = some-flags s rows (All-take (λ x. x < 256) size bytes all) l small in
    let whole : bytes ≡ presence fs ++ drop size bytes = sym (take-append-drop size bytes) ∙ ap (λ z. z ++ drop size bytes) is in
    let same : flags_in rows bytes ≡ fs = ap (λ z. flags_in z bytes) (sym n) ∙ flags-are fs bytes (drop size bytes) whole in
    (drop size bytes, whole ∙ ap (λ z. presence z ++ drop size bytes) (sym same))

pub presence-fits : (fs : List Bool) (bytes rest : List ℕ) (size : ℕ) → bytes ≡ presence fs ++ rest → size ≡ div_ceil (length fs) 8 → size ≤ length bytes
presence-fits fs bytes rest size e s = omega (arith, ap (λ (z : List ℕ). length z) e, length-append (presence fs) rest, length-presence fs)

pub presence-spares : (fs : List Bool) (bytes rest : List ℕ) (size : ℕ) → bytes ≡ presence fs ++ rest → size ≡ div_ceil (length fs) 8 → 2 ^ length fs ≤ number 256 (take size bytes) → ⊥
presence-spares fs bytes rest size e s h =
    let n : size ≡ length (presence fs) = omega (arith, length-presence fs) in
    let is : take size bytes ≡ presence fs = ap (λ z. take z bytes) n ∙ ap (take (length (presence fs))) e ∙ take-append_seam (presence fs) rest in
    absurd (omega (arith, none-spare fs, ap (number 256) is))

pub not-is : (b : Bool) → b ≡ true → not b ≡ true → ⊥
not-is true h k = cc
not-is false h k = cc

pub is-not : (b : Bool) → (b ≡ true → ⊥) → not b ≡ true
is-not true h = absurd (h refl)
is-not false h = refl

-- ---- what is there of some rows

pub present-take : {A : Type 0} (k : ℕ) (vs : List (Option A)) → present (take k vs) ≡ take (ones (take k (flags_of vs))) (present vs)
present-take zero vs = refl
present-take (suc k) [] = refl
present-take (suc k) (None ∷ vs) = present-take k vs
present-take (suc k) (Some x ∷ vs) = ap (λ z. x ∷ z) (present-take k vs)

pub present-drop : {A : Type 0} (k : ℕ) (vs : List (Option A)) → present (drop k vs) ≡ drop (ones (take k (flags_of vs))) (present vs)
present-drop zero vs = refl
present-drop (suc k) [] = refl
present-drop (suc k) (None ∷ vs) = present-drop k vs
present-drop (suc k) (Some x ∷ vs) = present-drop k vs

pub length-present : {A : Type 0} (vs : List (Option A)) → length (present vs) ≡ ones (flags_of vs)
length-present [] = refl
length-present (None ∷ vs) = length-present vs
length-present (Some x ∷ vs) = ap suc (length-present vs)

pub spread-present : {A : Type 0} (vs : List (Option A)) → spread (flags_of vs) (present vs) ≡ vs
spread-present [] = refl
spread-present (None ∷ vs) = ap (λ z. None ∷ z) (spread-present vs)
spread-present (Some x ∷ vs) = ap (λ z. Some x ∷ z) (spread-present vs)

pub present-append : {A : Type 0} (a b : List (Option A)) → present (a ++ b) ≡ present a ++ present b
present-append [] b = refl
present-append (None ∷ a) b = present-append a b
present-append (Some x ∷ a) b = ap (λ z. x ∷ z) (present-append a b)

pub present-more : {A : Type 0} (vs : List (Option A)) (k : ℕ) (x : Option A) → k < length vs → x ≡ get_or vs k x → present (take k vs) ++ present (x ∷ []) ≡ present (take (k + 1) vs)
present-more vs k x h e = sym (ap present (take_more vs k x h ∙ ap (λ z. take k vs ++ z ∷ []) (sym e)) ∙ present-append (take k vs) (x ∷ []))

-- ---- values at their rows

pub spread-step : {A : Type 0} (b : Bool) (fs : List Bool) (xs : List A) → spread (b ∷ fs) xs ≡ spread (b ∷ []) xs ++ spread fs (drop (bit b) xs)
spread-step false fs xs = refl
spread-step true fs [] = refl
spread-step true fs (x ∷ xs) = refl

ones-step : (b : Bool) (fs : List Bool) → ones (b ∷ fs) ≡ bit b + ones fs
ones-step false fs = omega arith
ones-step true fs = omega arith

pub flags-drop : (row to : ℕ) (bytes : List ℕ) → row < to → drop row (flags_in to bytes) ≡ is_set bytes row ∷ drop (row + 1) (flags_in to bytes)
flags-drop row to bytes h = drop_more (flags_in to bytes) row false (omega (arith, length-flags to bytes)) ∙ ap (λ z. z ∷ drop (row + 1) (flags_in to bytes)) (flag-at to bytes row false h)

pub spread-inside : {A : Type 0} (row to next : ℕ) (bytes : List ℕ) (xs : List A) (b : Bool) → row < to → b ≡ is_set bytes row → length (drop next xs) ≡ ones (drop row (flags_in to bytes)) → b ≡ true → next < length xs
spread-inside row to next bytes xs b h is n true-is =
    let one : ones (drop row (flags_in to bytes)) ≡ bit b + ones (drop (row + 1) (flags_in to bytes)) = ap ones (flags-drop row to bytes h) ∙ ones-step (is_set bytes row) (drop (row + 1) (flags_in to bytes)) ∙ ap (λ z. bit z + ones (drop (row + 1) (flags_in to bytes))) (sym is) in
    omega (arith, ap bit true-is, length-drop next xs)

pub spread-more : {A : Type 0} (row to next : ℕ) (bytes : List ℕ) (xs : List A) (b : Bool) (v : Option A) (out all : List (Option A)) → row < to → b ≡ is_set bytes row → spread (b ∷ []) (drop next xs) ≡ v ∷ []
    → out ++ spread (drop row (flags_in to bytes)) (drop next xs) ≡ all → (out ++ v ∷ []) ++ spread (drop (row + 1) (flags_in to bytes)) (drop (next + bit b) xs) ≡ all
spread-more row to next bytes xs b v out all h is one e =
    let fs = drop (row + 1) (flags_in to bytes) in
    let d : drop (bit b) (drop next xs) ≡ drop (next + bit b) xs = drop-drop (bit b) next xs in
    append_assoc out (v ∷ []) (spread fs (drop (next + bit b) xs))
    ∙ ap (λ z. out ++ z) (ap (λ z. z ++ spread fs (drop (next + bit b) xs)) (sym one) ∙ ap (λ z. spread (b ∷ []) (drop next xs) ++ spread fs z) (sym d) ∙ sym (spread-step b fs (drop next xs)) ∙ ap (λ z. spread (z ∷ fs) (drop next xs)) is)
    ∙ ap (λ z. out ++ spread z (drop next xs)) (sym (flags-drop row to bytes h))
    ∙ e

pub spread-count : {A : Type 0} (row to next : ℕ) (bytes : List ℕ) (xs : List A) (b : Bool) → row < to → b ≡ is_set bytes row → length (drop next xs) ≡ ones (drop row (flags_in to bytes))
    → length (drop (next + bit b) xs) ≡ ones (drop (row + 1) (flags_in to bytes))
spread-count row to next bytes xs b h is n =
    let one : ones (drop row (flags_in to bytes)) ≡ bit b + ones (drop (row + 1) (flags_in to bytes)) = ap ones (flags-drop row to bytes h) ∙ ones-step (is_set bytes row) (drop (row + 1) (flags_in to bytes)) ∙ ap (λ z. bit z + ones (drop (row + 1) (flags_in to bytes))) (sym is) in
    omega (arith, length-drop next xs, length-drop (next + bit b) xs)

pub spread-end : {A : Type 0} (row to next : ℕ) (bytes : List ℕ) (xs : List A) (out all : List (Option A)) → to ≤ row → out ++ spread (drop row (flags_in to bytes)) (drop next xs) ≡ all → out ≡ all
spread-end row to next bytes xs out all h e =
    sym (ap (λ z. out ++ spread z (drop next xs)) (drop_all row (flags_in to bytes) (omega (arith, length-flags to bytes))) ∙ append-nil out) ∙ e
