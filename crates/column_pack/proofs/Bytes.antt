use Rattle.std.proofs.Common.{◌≡◌, ℕ, ◌+◌, ◌-◌, ◌*◌, ◌/◌, ◌%◌, ◌^◌, ◌<◌, ◌≤◌, List, [], ◌∷◌, ◌++◌, length, get_or, take, set, refl, sym, ◌∙◌, ap, subst, arith}
use Rattle.std.specs.Int.{to_le_bytes, w64}
use Rattle.std.specs.List.{All}
use Rattle.std.proofs.lemmas.Nat.{from_le_bytes-to_le_bytes_8}
use Rattle.std.proofs.lemmas.List.{length-take-le}
use Rattle.std.proofs.lemmas.List.Elements.{All-from_recursion, All-take, All-get_or}
use Rattle.std.proofs.Math.Nat.{mod-lt, add-mul-div_left, div-eq_of_lt}
use Rattle.std.proofs.Math.Seq.{take-append-add}
use Rattle.std.proofs.lemmas.List.{take-take, take_more_set, length-set}
use Rattle.column_pack.specs.Digits.{number, digits, stream, bytes_for}
use Rattle.column_pack.specs.Block.{Block, layout, front}
use Rattle.column_pack.specs.Laws.Numbers.{pow-mul, number-lt, number-more, digits-number, digits-append, digits-low, take-digits}

low : (n : ℕ) → n % 256 < 256
low n = mod-lt n (omega arith)

le-bytes-below : (n : ℕ) → All (λ x. x < 256) (to_le_bytes w64 n)
le-bytes-below n = All-from_recursion (λ x. x < 256) (to_le_bytes w64 n)
    (low n, (low (n / 256), (low (n / 65536), (low (n / 16777216), (low (n / 4294967296), (low (n / 1099511627776), (low (n / 281474976710656), (low (n / 72057594037927936), tt))))))))

pub word-digits : (n : ℕ) → n < 2 ^ 64 → to_le_bytes w64 n ≡ digits 256 8 n
word-digits n h =
    let e : number 256 (to_le_bytes w64 n) ≡ n = omega (arith, from_le_bytes-to_le_bytes_8 n h) in
    sym (digits-number 256 (to_le_bytes w64 n) (omega arith) (le-bytes-below n)) ∙ ap (digits 256 8) e

word-power : (i : ℕ) → (2 ^ 64) ^ i ≡ 256 ^ (8 * i)
word-power i = sym (pow-mul 256 8 i)

-- one word more
pub words-more : (ws : List ℕ) (i : ℕ) → i < length ws → All (λ x. x < 2 ^ 64) ws
    → digits 256 (8 * i) (number (2 ^ 64) (take i ws)) ++ to_le_bytes w64 (get_or ws i 0) ≡ digits 256 (8 * (i + 1)) (number (2 ^ 64) (take (i + 1) ws))
words-more ws i h all =
    let n = number (2 ^ 64) (take i ws) in
    let w = get_or ws i 0 in
    let small : w < 2 ^ 64 = All-get_or (λ x. x < 2 ^ 64) ws i 0 h all in
    let m : number (2 ^ 64) (take (i + 1) ws) ≡ n + 256 ^ (8 * i) * w = number-more (2 ^ 64) ws i h ∙ ap (λ z. n + z * w) (word-power i) in
    let l : length (take i ws) ≡ i = length-take-le i ws (omega arith) in
    let lt : n < 256 ^ (8 * i) = subst (λ z. n < z) (ap (λ z. (2 ^ 64) ^ z) l ∙ word-power i) (number-lt (2 ^ 64) (take i ws) (All-take (λ x. x < 2 ^ 64) i ws all)) in
    let q : (n + 256 ^ (8 * i) * w) / 256 ^ (8 * i) ≡ w = add-mul-div_left n w (omega arith) ∙ ap (λ z. z + w) (div-eq_of_lt lt) ∙ omega arith in
    let e : 8 * (i + 1) ≡ 8 * i + 8 = omega arith in
    rw (e, m, digits-append 256 (8 * i) 8 (n + 256 ^ (8 * i) * w), q, digits-low 256 (8 * i) n w (omega arith), word-digits w small) refl

-- ---- the bytes of a block as they are written

-- the first two bytes, and then eight, eight, eight and one
pub front-written : (bs b1 b2 b3 x y z : List ℕ) (n k w : ℕ) → 2 ≤ length bs → 27 ≤ length b3
    → take 10 b1 ≡ take 2 (set (set bs 0 n) 1 k) ++ x → take 18 b2 ≡ take 10 b1 ++ y → take 26 b3 ≡ take 18 b2 ++ z
    → take 27 (set b3 26 w) ≡ (n ∷ k ∷ []) ++ x ++ y ++ z ++ (w ∷ [])
front-written bs b1 b2 b3 x y z n k w l m e f g =
    let a : take 1 (set bs 0 n) ≡ n ∷ [] = take_more_set bs 0 n (omega arith) in
    let b : take 2 (set (set bs 0 n) 1 k) ≡ (n ∷ []) ++ (k ∷ []) = take_more_set (set bs 0 n) 1 k (simp length-set (omega arith)) ∙ ap (λ ys. ys ++ k ∷ []) a in
    take_more_set b3 26 w (omega arith) ∙ ap (λ ys. ys ++ w ∷ []) (g ∙ ap (λ ys. ys ++ z) (f ∙ ap (λ ys. ys ++ y) (e ∙ ap (λ ys. ys ++ x) b)))

-- as many bytes as a block has, of those written
pub layout-written : (b : Block) (bytes : List ℕ) (words n : ℕ) → take (27 + 8 * words) bytes ≡ front b (length b.residuals) ++ digits 256 (8 * words) n
    → length b.residuals * b.width ≤ 64 * words → n ≡ number (2 ^ b.width) b.residuals → take (27 + bytes_for (length b.residuals * b.width)) bytes ≡ layout b
unfolding layout stream
layout-written b bytes words n e h q =
    let size = bytes_for (length b.residuals * b.width) in
    let rest = 8 * words - size in
    let fits : size + rest ≡ 8 * words = omega arith in
    let less : 27 + size ≤ 27 + 8 * words = omega arith in
    sym (take-take (27 + size) (27 + 8 * words) bytes less)
    ∙ ap (take (27 + size)) (e ∙ ap (λ z. front b (length b.residuals) ++ digits 256 z n) (sym fits))
    ∙ take-append-add (front b (length b.residuals)) (digits 256 (size + rest) n) size
    ∙ ap (λ ys. front b (length b.residuals) ++ ys) (take-digits 256 size rest n ∙ ap (digits 256 size) q)
