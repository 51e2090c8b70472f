use Rattle.std.proofs.Common.{◌≡◌, ℕ, suc, zero, ◌+◌, ◌-◌, ◌*◌, ◌/◌, ◌%◌, ◌^◌, ◌<◌, ◌≤◌, List, length, get_or, refl, sym, ◌∙◌, ap, arith}
use Rattle.std.specs.Int.{bit_at}
use Rattle.std.specs.List.{All}
use Rattle.std.proofs.lemmas.Nat.{pow-add, pow_pos, div_below}
use Rattle.std.proofs.Math.Nat.{pow-zero, pow-succ', div-one, div-div-eq-div-mul, mod-add-div, div-add-mod, div-eq_of_lt, pow-le-pow_right, mod-lt}
use Rattle.column_pack.specs.Digits.{number, digits, stream, bytes_for}
use Rattle.column_pack.specs.Laws.Numbers.{pow-mul, digits-number}
use Rattle.column_pack.specs.Laws.Words.{above}
use Rattle.column_pack.specs.Laws.Layouts.{stream-number}

digit-at : (b c n i : ℕ) → i < c → get_or (digits b c n) i 0 ≡ n / b ^ i % b
digit-at b zero n i h = absurd (omega arith)
digit-at b (suc c) n zero h = rw (pow-zero, div-one) refl
digit-at b (suc c) n (suc i) h = digit-at b c (n / b) i (omega arith) ∙ ap (λ z. z % b) (div-div-eq-div-mul n b (b ^ i) ∙ ap (λ z. n / z) (sym (pow-succ' b i)))

-- a bit of a digit is a bit of the number
bit-of : (n p j s : ℕ) → s < p → bit_at (n / (2 ^ p) ^ j % 2 ^ p) s ≡ bit_at n (p * j + s)
bit-of n p j s h =
    let m = n / (2 ^ p) ^ j in
    let e : s + (1 + (p - 1 - s)) ≡ p = omega arith in
    let q : m % 2 ^ p + 2 ^ (s + (1 + (p - 1 - s))) * (m / 2 ^ p) ≡ m = ap (λ z. m % 2 ^ p + 2 ^ z * (m / 2 ^ p)) e ∙ mod-add-div m (2 ^ p) in
    let d : n / (2 ^ p) ^ j / 2 ^ s ≡ n / 2 ^ (p * j + s) =
    div-div-eq-div-mul n ((2 ^ p) ^ j) (2 ^ s) ∙ ap (λ z. n / z) (ap (λ z. z * 2 ^ s) (sym (pow-mul 2 p j)) ∙ sym (pow-add 2 (p * j) s)) in
    sym (above (m % 2 ^ p) s 1 (p - 1 - s) (m / 2 ^ p)) ∙ ap (λ z. z / 2 ^ s % 2) q ∙ ap (λ z. z % 2) d

byte-bit : (w : ℕ) (rs : List ℕ) (k : ℕ) → k < 8 * bytes_for (length rs * w) → bit_at (get_or (stream w rs) (k / 8) 0) (k % 8) ≡ bit_at (number (2 ^ w) rs) k
unfolding stream
byte-bit w rs k h =
    let n = number (2 ^ w) rs in
    let j : k / 8 < bytes_for (length rs * w) = omega arith in
    let e : 8 * (k / 8) + k % 8 ≡ k = omega arith in
    ap (λ z. bit_at z (k % 8)) (digit-at 256 (bytes_for (length rs * w)) n (k / 8) j) ∙ bit-of n 8 (k / 8) (k % 8) (omega arith) ∙ ap (bit_at n) e

residual-bit : (w : ℕ) (rs : List ℕ) (k : ℕ) → All (λ r. r < 2 ^ w) rs → k < length rs * w → bit_at (get_or rs (k / w) 0) (k % w) ≡ bit_at (number (2 ^ w) rs) k
residual-bit zero rs k all h = absurd (omega arith)
residual-bit (suc v) rs k all h =
    let w = suc v in
    let n = number (2 ^ w) rs in
    let j : k / w < length rs = div_below k w (length rs) (omega arith) h in
    let e : w * (k / w) + k % w ≡ k = div-add-mod k w in
    let r : get_or rs (k / w) 0 ≡ n / (2 ^ w) ^ (k / w) % 2 ^ w = sym (ap (λ (xs : List ℕ). get_or xs (k / w) 0) (digits-number (2 ^ w) rs (pow_pos w) all)) ∙ digit-at (2 ^ w) (length rs) n (k / w) j in
    ap (λ z. bit_at z (k % w)) r ∙ bit-of n w (k / w) (k % w) (mod-lt k (omega arith)) ∙ ap (bit_at n) e

pub stream-bits : (w : ℕ) (rs : List ℕ) (k : ℕ) → All (λ r. r < 2 ^ w) rs → k < length rs * w → bit_at (get_or (stream w rs) (k / 8) 0) (k % 8) ≡ bit_at (get_or rs (k / w) 0) (k % w)
stream-bits w rs k all h = byte-bit w rs k (omega arith) ∙ sym (residual-bit w rs k all h)

pub stream-spare : (w : ℕ) (rs : List ℕ) (k : ℕ) → All (λ r. r < 2 ^ w) rs → length rs * w ≤ k → k < 8 * bytes_for (length rs * w) → bit_at (get_or (stream w rs) (k / 8) 0) (k % 8) ≡ 0
stream-spare w rs k all l h =
    let p : 2 ^ (length rs * w) ≤ 2 ^ k = pow-le-pow_right (omega arith) l in
    let z : number (2 ^ w) rs / 2 ^ k ≡ 0 = div-eq_of_lt (omega (arith, stream-number w rs all)) in
    byte-bit w rs k h ∙ ap (λ y. y % 2) z
