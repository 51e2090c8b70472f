use Rattle.std.proofs.Common.{◌≡◌, ℕ, suc, zero, ◌+◌, ◌-◌, ◌*◌, ◌/◌, ◌%◌, ◌^◌, ◌<◌, ◌≤◌, List, [], ◌∷◌, ◌++◌, length, get_or, take, drop, set, add-one, Fits, w8, w64, refl, sym, ◌∙◌, ap, subst, arith}
use Rattle.std.specs.List.{All}
use Rattle.std.specs.Int.{from_le_bytes}
use Rattle.std.proofs.lemmas.Nat.{shl_whole, shr_below, pow-add, pow_pos}
use Rattle.std.proofs.lemmas.List.{length-take-le, length-drop, get_or-drop, set_split, take_more_set}
use Rattle.std.proofs.lemmas.List.Elements.{All-from_get_or, All-head, All-tail, All-drop}
use Rattle.std.proofs.Math.Nat.{pow-suc, pow-succ', pow-zero, pow-le-pow_right, div-one, zero-div, div-eq_of_lt, div-div-eq-div-mul, add-mul-div_left, add-mul-mod_self_left}
use Rattle.column_pack.specs.Digits.{number, digits}
use Rattle.column_pack.specs.Laws.Numbers.{pow-mul, put-pending, put-word, number-append, number-more, number-more_set, number-lt, digits-more}

-- ---- writing: what is in words and what is pending are the residuals so far

pub grown : (w c f i p : ℕ) (rs ws : List ℕ) → i < length rs → 64 * c + f ≡ i * w
    → number (2 ^ 64) (take c ws) + (2 ^ 64) ^ c * p ≡ number (2 ^ w) (take i rs)
    → number (2 ^ 64) (take c ws) + (2 ^ 64) ^ c * (p + get_or rs i 0 * 2 ^ f) ≡ number (2 ^ w) (take (i + 1) rs)
grown w c f i p rs ws h e v = put-pending 64 w c f i p (get_or rs i 0) (number (2 ^ 64) (take c ws)) (number (2 ^ w) (take i rs)) e v ∙ sym (number-more (2 ^ w) rs i h)

pub put : (c p m : ℕ) (ws : List ℕ) → c < length ws
    → number (2 ^ 64) (take c ws) + (2 ^ 64) ^ c * p ≡ m
    → number (2 ^ 64) (take (c + 1) (set ws c (p % 2 ^ 64))) + (2 ^ 64) ^ (c + 1) * (p / 2 ^ 64) ≡ m
put c p m ws h v = ap (λ z. z + (2 ^ 64) ^ (c + 1) * (p / 2 ^ 64)) (number-more_set (2 ^ 64) ws c (p % 2 ^ 64) h) ∙ put-word (2 ^ 64) c p (number (2 ^ 64) (take c ws)) m v

pub shifted : (r f w : ℕ) → r < 2 ^ w → w ≤ 64 → f < 64 → r * 2 ^ f % 2 ^ 128 ≡ r * 2 ^ f
shifted r f w h p q = shl_whole r w f 128 h (omega arith)

pub rest-lt : (p f w : ℕ) → 64 ≤ f + w → p < 2 ^ (f + w) → p / 2 ^ 64 < 2 ^ (f + w - 64)
rest-lt p f w h k = let e : f + w - 64 + 64 ≡ f + w = omega arith in shr_below p (f + w - 64) 64 (rw e k)

-- ---- reading: words of bytes

eight : (a b c d e f g h : ℕ) (t : List ℕ) → number 256 (a ∷ b ∷ c ∷ d ∷ e ∷ f ∷ g ∷ h ∷ t) ≡ from_le_bytes w64 (a ∷ b ∷ c ∷ d ∷ e ∷ f ∷ g ∷ h ∷ []) + 2 ^ 64 * number 256 t
eight a b c d e f g h t = omega arith

pub number-word : (bs : List ℕ) → 8 ≤ length bs → number 256 bs ≡ from_le_bytes w64 (take 8 bs) + 2 ^ 64 * number 256 (drop 8 bs)
number-word (a ∷ b ∷ c ∷ d ∷ e ∷ f ∷ g ∷ h ∷ t) l = eight a b c d e f g h t
number-word [] l = absurd (omega arith)
number-word (a ∷ []) l = absurd (omega arith)
number-word (a ∷ b ∷ []) l = absurd (omega arith)
number-word (a ∷ b ∷ c ∷ []) l = absurd (omega arith)
number-word (a ∷ b ∷ c ∷ d ∷ []) l = absurd (omega arith)
number-word (a ∷ b ∷ c ∷ d ∷ e ∷ []) l = absurd (omega arith)
number-word (a ∷ b ∷ c ∷ d ∷ e ∷ f ∷ []) l = absurd (omega arith)
number-word (a ∷ b ∷ c ∷ d ∷ e ∷ f ∷ g ∷ []) l = absurd (omega arith)

pub word-read : (c m w : ℕ) (ws bs : List ℕ) → c < length ws → 8 ≤ length bs → w ≡ from_le_bytes w64 (take 8 bs)
    → number (2 ^ 64) (take c ws) + (2 ^ 64) ^ c * number 256 bs ≡ m
    → number (2 ^ 64) (take (c + 1) (set ws c w)) + (2 ^ 64) ^ (c + 1) * number 256 (drop 8 bs) ≡ m
word-read c m w ws bs h l e v =
    let a : number (2 ^ 64) (take (c + 1) (set ws c w)) ≡ number (2 ^ 64) (take c ws) + (2 ^ 64) ^ c * w = number-more_set (2 ^ 64) ws c w h in
    let b : number 256 bs ≡ w + 2 ^ 64 * number 256 (drop 8 bs) = number-word bs l ∙ ap (λ z. z + 2 ^ 64 * number 256 (drop 8 bs)) (sym e) in
    let d : (2 ^ 64) ^ (c + 1) ≡ (2 ^ 64) ^ c * 2 ^ 64 = ap (λ z. (2 ^ 64) ^ z) (add-one c) ∙ pow-suc (2 ^ 64) c in
    joined (number (2 ^ 64) (take c ws)) ((2 ^ 64) ^ c) (2 ^ 64) w (number 256 (drop 8 bs)) (number 256 bs) m ((2 ^ 64) ^ (c + 1)) (number (2 ^ 64) (take (c + 1) (set ws c w))) v a b d
  where
    joined : (n p k w r q m z y : ℕ) → n + p * q ≡ m → y ≡ n + p * w → q ≡ w + k * r → z ≡ p * k → y + z * r ≡ m
    joined n p k w r q m z y v a b d = rw (a, d) (subst (λ x. n + p * w + p * k * r ≡ x) (subst (λ x. n + p * x ≡ m) b v) (omega arith))

number-zeros : (b : ℕ) (xs : List ℕ) → ((k : ℕ) → get_or xs k 0 ≡ 0) → number b xs ≡ 0
number-zeros b [] h = refl
number-zeros b (x ∷ xs) h = rw (h 0, number-zeros b xs (λ k. h (suc k))) (omega arith)

pub number-set_last : (b : ℕ) (ws : List ℕ) (c v : ℕ) → c < length ws → ((k : ℕ) → c ≤ k → get_or ws k 0 ≡ 0) → number b (set ws c v) ≡ number b (take c ws) + b ^ c * v
number-set_last b ws c v h z =
    let l : length (take c ws) ≡ c = length-take-le c ws (omega arith) in
    let n : number b (drop (suc c) ws) ≡ 0 = number-zeros b (drop (suc c) ws) (λ k. get_or-drop (suc c) ws k 0 ∙ z (suc c + k) (omega arith)) in
    ap (number b) (set_split ws c v h) ∙ number-append b (take c ws) (v ∷ drop (suc c) ws) ∙ rw (l, n) (omega arith)

pub bytes-all : (bs : List ℕ) → ((i : ℕ) → Fits w8 (get_or bs i 0)) → All (λ x. x < 256) bs
bytes-all bs f = All-from_get_or (λ x. x < 256) bs 0 (λ i h. omega (arith, f i))

pub words-all : (bs : List ℕ) → ((i : ℕ) → Fits w64 (get_or bs i 0)) → All (λ x. x < 2 ^ 64) bs
words-all bs f = All-from_get_or (λ x. x < 2 ^ 64) bs 0 (λ i h. omega (arith, f i))

pub last-lt : (bs : List ℕ) (i : ℕ) → All (λ x. x < 256) bs → length bs < 8 → 0 < i → number 256 (drop i bs) < 256 ^ 6
last-lt bs i h l p =
    let a : number 256 (drop i bs) < 256 ^ length (drop i bs) = number-lt 256 (drop i bs) (All-drop (λ x. x < 256) i bs h) in
    let b : length (drop i bs) ≤ 6 = simp length-drop (omega arith) in
    let c : 256 ^ length (drop i bs) ≤ 256 ^ 6 = pow-le-pow_right (omega arith) b in
    omega arith

-- ---- reading: a number of some bits at a place

pub number-drop : (b : ℕ) (xs : List ℕ) (j : ℕ) → 0 < b → All (λ x. x < b) xs → number b xs / b ^ j ≡ number b (drop j xs)
number-drop b xs zero p h = rw (pow-zero, div-one) refl
number-drop b [] (suc j) p h = zero-div (b ^ suc j)
number-drop b (x ∷ xs) (suc j) p h =
    let hd : x < b = All-head (λ x. x < b) x xs h in
    let f : (x + b * number b xs) / b ≡ number b xs = add-mul-div_left x (number b xs) p ∙ ap (λ z. z + number b xs) (div-eq_of_lt hd) ∙ omega arith in
    rw (pow-succ', ← div-div-eq-div-mul (x + b * number b xs) b (b ^ j), f) (number-drop b xs j p (All-tail (λ x. x < b) x xs h))

-- what stands above some bits doesn't show in them
pub above : (n s w t z : ℕ) → (n + 2 ^ (s + (w + t)) * z) / 2 ^ s % 2 ^ w ≡ n / 2 ^ s % 2 ^ w
above n s w t z =
    let e : 2 ^ (s + (w + t)) * z ≡ 2 ^ s * (2 ^ w * (2 ^ t * z)) = ap (λ y. y * z) (pow-add 2 s (w + t) ∙ ap (λ y. 2 ^ s * y) (pow-add 2 w t)) ∙ omega arith in
    rw (e, add-mul-div_left n (2 ^ w * (2 ^ t * z)) (pow_pos s)) (add-mul-mod_self_left (n / 2 ^ s) (2 ^ w) (2 ^ t * z))

pair-front : (b : ℕ) (xs : List ℕ) → 1 < length xs → number b xs ≡ get_or xs 0 0 + get_or xs 1 0 * b + b * b * number b (drop 2 xs)
pair-front b [] h = absurd (omega arith)
pair-front b (x ∷ []) h = absurd (omega arith)
pair-front b (x ∷ y ∷ xs) h = omega arith

pub bits-at : (ws : List ℕ) (at j s w : ℕ) → All (λ x. x < 2 ^ 64) ws → at ≡ 64 * j + s → s < 64 → w ≤ 64 → j + 1 < length ws
    → (get_or ws j 0 + get_or ws (j + 1) 0 * 2 ^ 64) / 2 ^ s % 2 ^ w ≡ number (2 ^ 64) ws / 2 ^ at % 2 ^ w
bits-at ws at j s w h e p q l =
    let a : number (2 ^ 64) ws / (2 ^ 64) ^ j ≡ number (2 ^ 64) (drop j ws) = number-drop (2 ^ 64) ws j (pow_pos 64) h in
    let b : number (2 ^ 64) (drop j ws) ≡ get_or (drop j ws) 0 0 + get_or (drop j ws) 1 0 * 2 ^ 64 + 2 ^ 64 * 2 ^ 64 * number (2 ^ 64) (drop 2 (drop j ws)) = pair-front (2 ^ 64) (drop j ws) (simp length-drop (omega arith)) in
    let c : (2 ^ 64) ^ j * 2 ^ s ≡ 2 ^ at = ap (λ z. z * 2 ^ s) (sym (pow-mul 2 64 j)) ∙ sym (pow-add 2 (64 * j) s) ∙ ap (λ z. 2 ^ z) (sym e) in
    let d : number (2 ^ 64) ws / 2 ^ at ≡ number (2 ^ 64) (drop j ws) / 2 ^ s = ap (λ z. number (2 ^ 64) ws / z) (sym c) ∙ sym (div-div-eq-div-mul (number (2 ^ 64) ws) ((2 ^ 64) ^ j) (2 ^ s)) ∙ ap (λ z. z / 2 ^ s) a in
    let o : j + 0 ≡ j = omega arith in
    let f : get_or (drop j ws) 0 0 ≡ get_or ws j 0 = get_or-drop j ws 0 0 ∙ ap (λ z. get_or ws z 0) o in
    let g : get_or (drop j ws) 1 0 ≡ get_or ws (j + 1) 0 = get_or-drop j ws 1 0 in
    let u : s + (w + (128 - s - w)) ≡ 64 + 64 = omega arith in
    let t : 2 ^ (s + (w + (128 - s - w))) ≡ 2 ^ 64 * 2 ^ 64 = ap (λ z. 2 ^ z) u ∙ pow-add 2 64 64 in
    rw d (rw b (rw (f, g) (rw (← t) (sym (above (get_or ws j 0 + get_or ws (j + 1) 0 * 2 ^ 64) s w (128 - s - w) (number (2 ^ 64) (drop 2 (drop j ws))))))))

pub residual-read : (w i n r : ℕ) (rs : List ℕ) → i < length rs → take i rs ≡ digits (2 ^ w) i n → r ≡ n / 2 ^ (i * w) % 2 ^ w → take (i + 1) (set rs i r) ≡ digits (2 ^ w) (i + 1) n
residual-read w i n r rs h t e =
    let o : i * w ≡ w * i = omega arith in
    let f : 2 ^ (i * w) ≡ (2 ^ w) ^ i = ap (λ z. 2 ^ z) o ∙ pow-mul 2 w i in
    take_more_set rs i r h ∙ ap (λ ys. ys ++ r ∷ []) t ∙ ap (λ z. digits (2 ^ w) i n ++ z ∷ []) (e ∙ ap (λ z. n / z % 2 ^ w) f) ∙ sym (digits-more (2 ^ w) i n)
