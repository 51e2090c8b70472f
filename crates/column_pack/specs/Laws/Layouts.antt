use Rattle.std.proofs.Common.{◌≡◌, ◌≢◌, ℕ, suc, zero, ◌+◌, ◌-◌, ◌*◌, ◌/◌, ◌%◌, ◌^◌, ◌<◌, ◌≤◌, true, List, [], ◌∷◌, ◌++◌, length, get_or, take, drop, replicate, refl, sym, ◌∙◌, ap, subst, arith, inl, inr}
use Rattle.std.specs.Prelude.{◌↔◌}
use Rattle.std.specs.Int.{to_be_bytes, from_be_bytes, w64}
use Rattle.std.specs.List.{All}
use lib.Dec.{eqb}
use mathlib.Core.Bool.{not}
use Rattle.std.proofs.lemmas.Bool.{eqb-false, ne_eqb, not-true, cases_lt}
use Rattle.std.proofs.lemmas.Nat.{from_be_bytes-to_be_bytes_8, be_bytes_8, pow_pos, pow-add, div-add-mod'}
use Rattle.std.proofs.lemmas.List.{get_or_past, drop_more, take-append-drop, drop-drop, length-take-le, length-drop, take_all}
use Rattle.std.proofs.lemmas.List.Elements.{All-take, All-get_or, All-drop}
use Rattle.std.proofs.Math.Nat.{pow-le-pow_right, div-eq_of_lt, mul-le-mul_left, mod-one, mod-lt}
use Rattle.column_pack.specs.Block.{Block, layout, kind_code}
use Rattle.column_pack.specs.Digits.{number, digits, stream, bytes_for}
use Rattle.column_pack.specs.Parts.{block_with, residuals_in}
use Rattle.column_pack.specs.declared.parts.Header.{Header}
use Rattle.column_pack.specs.Laws.Numbers.{pow-mul, number-lt, number-more, number-digits, digits-number, length-digits}

-- ---- what the bytes of a block are, part by part

pub length-stream : (w : ℕ) (rs : List ℕ) → length (stream w rs) ≡ bytes_for (length rs * w)
unfolding stream
length-stream w rs = length-digits 256 (bytes_for (length rs * w)) (number (2 ^ w) rs)

pub length-layout : (b : Block) → length (layout b) ≡ 27 + bytes_for (length b.residuals * b.width)
unfolding layout
length-layout b = omega (arith, length-stream b.width b.residuals)

pub layout-count : (b : Block) → get_or (layout b) 0 0 ≡ length b.residuals
unfolding layout
layout-count b = refl

pub layout-kind : (b : Block) → get_or (layout b) 1 0 ≡ kind_code b.kind
unfolding layout
layout-kind b = refl

pub layout-width : (b : Block) → get_or (layout b) 26 0 ≡ b.width
unfolding layout
layout-width b = refl

pub layout-stream : (b : Block) → drop 27 (layout b) ≡ stream b.width b.residuals
unfolding layout
layout-stream b = refl

pub layout-first : (b : Block) → b.first < 2 ^ 64 → from_be_bytes w64 (take 8 (drop 2 (layout b))) ≡ b.first
unfolding layout
layout-first b h = from_be_bytes-to_be_bytes_8 b.first h

pub layout-offset : (b : Block) → b.offset < 2 ^ 64 → from_be_bytes w64 (take 8 (drop 10 (layout b))) ≡ b.offset
unfolding layout
layout-offset b h = from_be_bytes-to_be_bytes_8 b.offset h

pub layout-factor : (b : Block) → b.factor < 2 ^ 64 → from_be_bytes w64 (take 8 (drop 18 (layout b))) ≡ b.factor
unfolding layout
layout-factor b h = from_be_bytes-to_be_bytes_8 b.factor h

-- the stream as a number, which has no bit behind the residuals
pub stream-number : (w : ℕ) (rs : List ℕ) → All (λ r. r < 2 ^ w) rs → number (2 ^ w) rs < 2 ^ (length rs * w)
stream-number w rs h = let e : length rs * w ≡ w * length rs = omega arith in subst (λ z. number (2 ^ w) rs < z) (sym (pow-mul 2 w (length rs)) ∙ ap (λ z. 2 ^ z) (sym e)) (number-lt (2 ^ w) rs h)

bytes-power : (n : ℕ) → 256 ^ bytes_for n ≡ 2 ^ (8 * bytes_for n)
bytes-power n = sym (pow-mul 2 8 (bytes_for n))

pub number-stream : (w : ℕ) (rs : List ℕ) → All (λ r. r < 2 ^ w) rs → number 256 (stream w rs) ≡ number (2 ^ w) rs
unfolding stream
number-stream w rs h =
    let n = length rs * w in
    let l : n ≤ 8 * bytes_for n = omega arith in
    let p : 2 ^ n ≤ 2 ^ (8 * bytes_for n) = pow-le-pow_right (omega arith) l in
    number-digits 256 (bytes_for n) (number (2 ^ w) rs) (rw bytes-power (omega (arith, stream-number w rs h)))

pub stream-residuals : (w : ℕ) (rs : List ℕ) → All (λ r. r < 2 ^ w) rs → digits (2 ^ w) (length rs) (number 256 (stream w rs)) ≡ rs
stream-residuals w rs h = ap (digits (2 ^ w) (length rs)) (number-stream w rs h) ∙ digits-number (2 ^ w) rs (pow_pos w) h

-- ---- bytes that are the bytes of a block

split-at : (xs : List ℕ) (i : ℕ) → drop i xs ≡ take 8 (drop i xs) ++ drop (i + 8) xs
split-at xs i = sym (take-append-drop 8 (drop i xs)) ∙ ap (λ ys. take 8 (drop i xs) ++ ys) (drop-drop 8 i xs)

pub parts-of : (xs : List ℕ) → 27 ≤ length xs → xs ≡ get_or xs 0 0 ∷ get_or xs 1 0 ∷ (take 8 (drop 2 xs) ++ (take 8 (drop 10 xs) ++ (take 8 (drop 18 xs) ++ (get_or xs 26 0 ∷ drop 27 xs))))
parts-of xs h =
    drop_more xs 0 0 (omega arith)
    ∙ ap (λ ys. get_or xs 0 0 ∷ ys) (drop_more xs 1 0 (omega arith))
    ∙ ap (λ ys. get_or xs 0 0 ∷ get_or xs 1 0 ∷ ys) (split-at xs 2)
    ∙ ap (λ ys. get_or xs 0 0 ∷ get_or xs 1 0 ∷ (take 8 (drop 2 xs) ++ ys)) (split-at xs 10)
    ∙ ap (λ ys. get_or xs 0 0 ∷ get_or xs 1 0 ∷ (take 8 (drop 2 xs) ++ (take 8 (drop 10 xs) ++ ys))) (split-at xs 18)
    ∙ ap (λ ys. get_or xs 0 0 ∷ get_or xs 1 0 ∷ (take 8 (drop 2 xs) ++ (take 8 (drop 10 xs) ++ (take 8 (drop 18 xs) ++ ys)))) (drop_more xs 26 0 (omega arith))

word-again : (xs : List ℕ) (i n : ℕ) → i + 8 ≤ length xs → All (λ x. x < 256) xs → n ≡ from_be_bytes w64 (take 8 (drop i xs)) → to_be_bytes w64 n ≡ take 8 (drop i xs)
word-again xs i n l all e =
    let len : length (take 8 (drop i xs)) ≡ 8 = length-take-le 8 (drop i xs) (omega (arith, length-drop i xs)) in
    be_bytes_8 (take 8 (drop i xs)) n len (λ k. small k) e
  where
    small : (k : ℕ) → get_or (take 8 (drop i xs)) k 0 < 256
    small k = elim (cases_lt k (length (take 8 (drop i xs)))) [
      | inl h ↦ All-get_or (λ x. x < 256) (take 8 (drop i xs)) k 0 h (All-take (λ x. x < 256) 8 (drop i xs) (All-drop (λ x. x < 256) i xs all))
      | inr h ↦ omega (arith, get_or_past (take 8 (drop i xs)) k 0 h)
    ]

stream-again : (w count : ℕ) (s : List ℕ) → All (λ x. x < 256) s → length s ≡ bytes_for (count * w) → number 256 s < 2 ^ (count * w) → stream w (digits (2 ^ w) count (number 256 s)) ≡ s
unfolding stream
stream-again w count s all l h =
    let e : count * w ≡ w * count = omega arith in
    let p : number 256 s < (2 ^ w) ^ count = subst (λ z. number 256 s < z) (ap (λ z. 2 ^ z) e ∙ pow-mul 2 w count) h in
    let n : number (2 ^ w) (digits (2 ^ w) count (number 256 s)) ≡ number 256 s = number-digits (2 ^ w) count (number 256 s) p in
    let len : bytes_for (length (digits (2 ^ w) count (number 256 s)) * w) ≡ length s = ap (λ z. bytes_for (z * w)) (length-digits (2 ^ w) count (number 256 s)) ∙ sym l in
    rw (len, n) (digits-number 256 s (omega arith) all)

parts-same : (n n' k k' : ℕ) (a a' b b' c c' : List ℕ) (w w' : ℕ) (s s' : List ℕ) → n ≡ n' → k ≡ k' → a ≡ a' → b ≡ b' → c ≡ c' → w ≡ w' → s ≡ s'
    → ◌≡◌ {A = List ℕ} (n ∷ k ∷ (a ++ (b ++ (c ++ (w ∷ s))))) (n' ∷ k' ∷ (a' ++ (b' ++ (c' ++ (w' ∷ s')))))
parts-same n n' k k' a a' b b' c c' w w' s s' e1 e2 e3 e4 e5 e6 e7 = cc

pub bytes-again : (bytes : List ℕ) (h : Header) (count : ℕ) → All (λ x. x < 256) bytes → length bytes ≡ 27 + bytes_for (count * h.width)
    → number 256 (drop 27 bytes) < 2 ^ (count * h.width)
    → count ≡ get_or bytes 0 0 → kind_code h.kind ≡ get_or bytes 1 0 → h.width ≡ get_or bytes 26 0
    → h.first ≡ from_be_bytes w64 (take 8 (drop 2 bytes)) → h.offset ≡ from_be_bytes w64 (take 8 (drop 10 bytes)) → h.factor ≡ from_be_bytes w64 (take 8 (drop 18 bytes))
    → bytes ≡ layout (block_with h (residuals_in bytes h.width count))
unfolding layout
bytes-again bytes h count all l n c k w f o a =
    let len : length (residuals_in bytes h.width count) ≡ count = length-digits (2 ^ h.width) count (number 256 (drop 27 bytes)) in
    let s : stream h.width (residuals_in bytes h.width count) ≡ drop 27 bytes = stream-again h.width count (drop 27 bytes) (All-drop (λ x. x < 256) 27 bytes all) (omega (arith, length-drop 27 bytes)) n in
    parts-of bytes (omega arith)
    ∙ parts-same _ _ _ _ _ _ _ _ _ _ _ _ _ _ (sym c ∙ sym len) (sym k) (sym (word-again bytes 2 h.first (omega arith) all f)) (sym (word-again bytes 10 h.offset (omega arith) all o)) (sym (word-again bytes 18 h.factor (omega arith) all a)) (sym w) (sym s)

-- ---- bits behind the residuals

pub spare-none : (s : List ℕ) (bits : ℕ) → All (λ x. x < 256) s → length s ≡ bytes_for bits → bits % 8 ≡ 0 → 2 ^ bits ≤ number 256 s → ⊥
spare-none s bits all l e h =
    let b : 8 * length s ≡ bits = omega arith in
    let p : 256 ^ length s ≡ 2 ^ bits = sym (pow-mul 2 8 (length s)) ∙ ap (λ z. 2 ^ z) b in
    omega (arith, number-lt 256 s all)

module _ (s : List ℕ) (bits : ℕ) (all : All (λ x. x < 256) s) (l : length s ≡ bytes_for bits) (u : bits % 8 ≢ 0) where
  last-split : number 256 s ≡ number 256 (take (length s - 1) s) + 256 ^ (length s - 1) * get_or s (length s - 1) 0
  last-split =
      let m = length s - 1 in
      let e : m + 1 ≡ length s = omega arith in
      sym (ap (number 256) (ap (λ z. take z s) e ∙ take_all (length s) s (omega arith))) ∙ number-more 256 s m (omega arith)

  last-power : 2 ^ bits ≡ 256 ^ (length s - 1) * 2 ^ (bits % 8)
  last-power =
      let e : bits ≡ 8 * (length s - 1) + bits % 8 = omega arith in
      ap (λ z. 2 ^ z) e ∙ pow-add 2 (8 * (length s - 1)) (bits % 8) ∙ ap (λ z. z * 2 ^ (bits % 8)) (pow-mul 2 8 (length s - 1))

  front-lt : number 256 (take (length s - 1) s) < 256 ^ (length s - 1)
  front-lt = subst (λ z. number 256 (take (length s - 1) s) < 256 ^ z) (length-take-le (length s - 1) s (omega arith)) (number-lt 256 (take (length s - 1) s) (All-take (λ x. x < 256) (length s - 1) s all))

  pub spare-some : (not (eqb (get_or s (length s - 1) 0 / 2 ^ (bits % 8)) 0) ≡ true) ↔ (2 ^ bits ≤ number 256 s)
  spare-some = ((λ h. up h), (λ h. down h))
    where
      up : not (eqb (get_or s (length s - 1) 0 / 2 ^ (bits % 8)) 0) ≡ true → 2 ^ bits ≤ number 256 s
      up h =
          let x = get_or s (length s - 1) 0 in
          let ne : x / 2 ^ (bits % 8) ≡ 0 → ⊥ = eqb-false (x / 2 ^ (bits % 8)) 0 (not-true (eqb (x / 2 ^ (bits % 8)) 0) h) in
          let le : 2 ^ (bits % 8) ≤ x = elim (cases_lt x (2 ^ (bits % 8))) [ inl k ↦ absurd (ne (div-eq_of_lt k)) | inr k ↦ k ] in
          let m : 256 ^ (length s - 1) * 2 ^ (bits % 8) ≤ 256 ^ (length s - 1) * x = mul-le-mul_left (256 ^ (length s - 1)) le in
          rw (last-power, last-split) (omega arith)

      down : 2 ^ bits ≤ number 256 s → not (eqb (get_or s (length s - 1) 0 / 2 ^ (bits % 8)) 0) ≡ true
      down h =
          let x = get_or s (length s - 1) 0 in
          elim (cases_lt x (2 ^ (bits % 8))) [
            | inl k ↦
                let m : 256 ^ (length s - 1) * (x + 1) ≤ 256 ^ (length s - 1) * 2 ^ (bits % 8) = mul-le-mul_left (256 ^ (length s - 1)) (omega arith) in
                absurd (omega (arith, last-power, last-split, front-lt))
            | inr k ↦ ap not (ne_eqb (x / 2 ^ (bits % 8)) 0 (λ e. absurd (omega (arith, div-add-mod' x (2 ^ (bits % 8)), mod-lt x (pow_pos (bits % 8)), ap (λ z. z * 2 ^ (bits % 8)) e))))
          ]

-- ---- residuals without bits

pub zeros-at : (n k : ℕ) → get_or {A = ℕ} (replicate n 0) k 0 ≡ 0
zeros-at zero k = refl
zeros-at (suc n) zero = refl
zeros-at (suc n) (suc k) = zeros-at n k

pub take-zeros : (xs : List ℕ) (c n : ℕ) → c ≤ length xs → ((k : ℕ) → get_or xs k 0 ≡ 0) → take c xs ≡ digits 1 c n
take-zeros xs zero n l h = refl
take-zeros [] (suc c) n l h = absurd (omega arith)
take-zeros (x ∷ xs) (suc c) n l h = let e : n % 1 ≡ 0 = mod-one n in rw (h 0, e, take-zeros xs c (n / 1) (omega arith) (λ k. h (suc k))) refl
