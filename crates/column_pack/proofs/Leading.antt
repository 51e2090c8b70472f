-- Bytes that begin with a block, part by part.
use Rattle.std.proofs.Common.{◌≡◌, ◌≢◌, pos, ℕ, ℤ, ◌-◌, ◌%◌, ◌+◌, ◌*◌, ◌^◌, ◌<◌, ◌≤◌, List, [], ◌∷◌, ◌++◌, length, get_or, take, drop, map, refl, sym, ◌∙◌, ap, subst, arith}
use Rattle.std.specs.Int.{w64, from_be_bytes, cast_signed}
use Rattle.std.specs.Prelude.{FitsSigned}
use Rattle.std.specs.List.{All}
use Rattle.std.proofs.lemmas.Nat.{from_be_bytes-to_be_bytes_8, mul-le}
use Rattle.std.proofs.lemmas.List.{length-append, length-drop, get_or-map}
use Rattle.std.proofs.Math.Seq.{take-append_seam}
use Rattle.column_pack.specs.Block.{Block, IsBlock, IsBlockOf, layout, kind_code, place, places_of, counted, height, turned}
use Rattle.column_pack.specs.declared.parts.Kind.{Kind}
use Rattle.column_pack.specs.declared.parts.Kind.TheVariants.{Plain, Rising, Falling}
use Rattle.column_pack.specs.Laws.OneList.{values-count}
use Rattle.column_pack.specs.Laws.Sums.{number-at}
use Rattle.column_pack.proofs.WholeSums.{first-sum}
use Rattle.column_pack.specs.Digits.{number, digits, stream, bytes_for}
use Rattle.column_pack.specs.Known.{BeginsWith, Leads}
use Rattle.column_pack.specs.Laws.Blocks.{below-width}
use Rattle.column_pack.specs.Laws.Layouts.{length-layout, length-stream, stream-residuals, number-stream}
use Rattle.column_pack.specs.Laws.Numbers.{pow-mul, number-append}
use Rattle.std.proofs.lemmas.Nat.{pow_pos, pow-add}
use Rattle.std.proofs.lemmas.List.Elements.{All-head}
use Rattle.std.proofs.Math.Nat.{add-mul-mod_self_left, mod-eq_of_lt, mod-lt, mul-le-mul_right, pow-le-pow_right}
use Rattle.column_pack.specs.Laws.Sounds.{sound-of}

pub leads-of : (vs : List ℤ) (bytes : List ℕ) → BeginsWith vs bytes → (b : Block) × IsBlockOf vs b × Leads b bytes
leads-of vs bytes (block, rest, (b, h, e), s) = (b, h, record { sound = sound-of vs b h; rest = rest; same = s ∙ ap (λ z. z ++ rest) e })

pub lead-long : (b : Block) (bytes : List ℕ) → Leads b bytes → 27 + bytes_for (length b.residuals * b.width) ≤ length bytes
lead-long b bytes h = omega (arith, ap (λ (z : List ℕ). length z) h.same, length-append (layout b) h.rest, length-layout b)

pub lead-count : (b : Block) (bytes : List ℕ) → Leads b bytes → get_or bytes 0 0 ≡ length b.residuals
unfolding layout
lead-count b bytes h = ap (λ (z : List ℕ). get_or z 0 0) h.same

pub lead-kind : (b : Block) (bytes : List ℕ) → Leads b bytes → get_or bytes 1 0 ≡ kind_code b.kind
unfolding layout
lead-kind b bytes h = ap (λ (z : List ℕ). get_or z 1 0) h.same

pub lead-width : (b : Block) (bytes : List ℕ) → Leads b bytes → get_or bytes 26 0 ≡ b.width
unfolding layout
lead-width b bytes h = ap (λ (z : List ℕ). get_or z 26 0) h.same

pub lead-first : (b : Block) (bytes : List ℕ) → Leads b bytes → from_be_bytes w64 (take 8 (drop 2 bytes)) ≡ b.first
unfolding layout
lead-first b bytes h = ap (λ (z : List ℕ). from_be_bytes w64 (take 8 (drop 2 z))) h.same ∙ from_be_bytes-to_be_bytes_8 b.first h.sound.canonical.fits.first

pub lead-offset : (b : Block) (bytes : List ℕ) → Leads b bytes → from_be_bytes w64 (take 8 (drop 10 bytes)) ≡ b.offset
unfolding layout
lead-offset b bytes h = ap (λ (z : List ℕ). from_be_bytes w64 (take 8 (drop 10 z))) h.same ∙ from_be_bytes-to_be_bytes_8 b.offset h.sound.canonical.fits.offset

pub lead-factor : (b : Block) (bytes : List ℕ) → Leads b bytes → from_be_bytes w64 (take 8 (drop 18 bytes)) ≡ b.factor
unfolding layout
lead-factor b bytes h = ap (λ (z : List ℕ). from_be_bytes w64 (take 8 (drop 18 z))) h.same ∙ from_be_bytes-to_be_bytes_8 b.factor h.sound.canonical.fits.factor

pub lead-stream : (b : Block) (bytes : List ℕ) (h : Leads b bytes) → drop 27 bytes ≡ stream b.width b.residuals ++ h.rest
unfolding layout
lead-stream b bytes h = ap (drop 27) h.same

pub residuals-below : (b : Block) (bytes : List ℕ) → Leads b bytes → All (λ r. r < 2 ^ b.width) b.residuals
residuals-below b bytes h = below-width b.width b.residuals h.sound.canonical.width

-- the residuals, by the bytes that they fill
pub lead-residuals : (b : Block) (bytes : List ℕ) (w n len : ℕ) → Leads b bytes → w ≡ b.width → n ≡ length b.residuals → len ≡ bytes_for (n * w)
    → digits (2 ^ w) n (number 256 (take len (drop 27 bytes))) ≡ b.residuals
lead-residuals b bytes w n len h a c d =
    let l : len ≡ length (stream b.width b.residuals) = d ∙ ap (λ z. bytes_for (z * w)) c ∙ ap (λ z. bytes_for (length b.residuals * z)) a ∙ sym (length-stream b.width b.residuals) in
    let s : take len (drop 27 bytes) ≡ stream b.width b.residuals = ap (λ z. take z (drop 27 bytes)) l ∙ ap (take (length (stream b.width b.residuals))) (lead-stream b bytes h) ∙ take-append_seam (stream b.width b.residuals) h.rest in
    ap (λ z. digits (2 ^ z) n (number 256 (take len (drop 27 bytes)))) a
    ∙ ap (λ z. digits (2 ^ b.width) z (number 256 (take len (drop 27 bytes)))) c
    ∙ ap (λ z. digits (2 ^ b.width) (length b.residuals) (number 256 z)) s
    ∙ stream-residuals b.width b.residuals (residuals-below b bytes h)

-- the sizes of a block, by its first bytes
pub record AreSizes (bytes : List ℕ) : Type 0 where
  pub few : get_or bytes 0 0 ≤ 128
  pub thin : get_or bytes 26 0 ≤ 64
  pub short : bytes_for (get_or bytes 0 0 * get_or bytes 26 0) ≤ 1024
  pub long : 27 + bytes_for (get_or bytes 0 0 * get_or bytes 26 0) ≤ length bytes

pub lead-sizes : (b : Block) (bytes : List ℕ) → Leads b bytes → AreSizes bytes
lead-sizes b bytes h =
    let n = lead-count b bytes h in
    let w = lead-width b bytes h in
    let few : get_or bytes 0 0 ≤ 128 = omega (arith, n, h.sound.canonical.fits.few) in
    let thin : get_or bytes 26 0 ≤ 64 = omega (arith, w, h.sound.canonical.fits.width) in
    record {
      few = few;
      thin = thin;
      short = omega (arith, mul-le (get_or bytes 0 0) (get_or bytes 26 0) 128 64 few thin);
      long = subst (λ z. 27 + bytes_for z ≤ length bytes) (ap (λ z. z * b.width) (sym n) ∙ ap (λ z. get_or bytes 0 0 * z) (sym w)) (lead-long b bytes h);
    }

-- ---- the first residual

low-same : (n w t z : ℕ) → (n + 2 ^ (w + t) * z) % 2 ^ w ≡ n % 2 ^ w
low-same n w t z =
    let e : 2 ^ (w + t) * z ≡ 2 ^ w * (2 ^ t * z) = ap (λ y. y * z) (pow-add 2 w t) ∙ omega arith in
    rw e (add-mul-mod_self_left n (2 ^ w) (2 ^ t * z))

low-above : (n m k z : ℕ) → m ≤ k → (n + 2 ^ k * z) % 2 ^ m ≡ n % 2 ^ m
low-above n m k z h = let e : m + (k - m) ≡ k = omega arith in ap (λ y. (n + 2 ^ y * z) % 2 ^ m) (sym e) ∙ low-same n m (k - m) z

first-digit : (m : ℕ) (rs : List ℕ) → All (λ r. r < m) rs → 0 < length rs → number m rs % m ≡ get_or rs 0 0
first-digit m [] h l = absurd (omega arith)
first-digit m (r ∷ rs) h l = add-mul-mod_self_left r m (number m rs) ∙ mod-eq_of_lt (All-head (λ r. r < m) r rs h)

stream-long : (n w : ℕ) → 0 < n → w ≤ 8 * bytes_for (n * w)
stream-long n w h = let m : 1 * w ≤ n * w = mul-le-mul_right w h in omega (arith, m)

pub lead-residual : (b : Block) (bytes : List ℕ) (x z w : ℕ) → Leads b bytes → w ≡ b.width → number 256 (drop 27 bytes) ≡ x + 2 ^ 64 * z → x % 2 ^ w ≡ get_or b.residuals 0 0
lead-residual b bytes x z w h a e =
    let s = stream b.width b.residuals in
    let rs = b.residuals in
    let fits = h.sound.canonical.fits in
    let len : length s ≡ bytes_for (length rs * b.width) = length-stream b.width rs in
    let p : 256 ^ length s ≡ 2 ^ (8 * length s) = sym (pow-mul 2 8 (length s)) in
    let all : number 256 (drop 27 bytes) ≡ number 256 s + 2 ^ (8 * length s) * number 256 h.rest = ap (number 256) (lead-stream b bytes h) ∙ number-append 256 s h.rest ∙ ap (λ y. number 256 s + y * number 256 h.rest) p in
    ap (λ y. x % 2 ^ y) a
    ∙ sym (low-above x b.width 64 z fits.width)
    ∙ ap (λ y. y % 2 ^ b.width) (sym e ∙ all)
    ∙ low-above (number 256 s) b.width (8 * length s) (number 256 h.rest) (omega (arith, len, stream-long (length rs) b.width fits.some))
    ∙ ap (λ y. y % 2 ^ b.width) (number-stream b.width rs (residuals-below b bytes h))
    ∙ first-digit (2 ^ b.width) rs (residuals-below b bytes h) fits.some

pub residual-lt : (x w : ℕ) → w ≤ 64 → x % 2 ^ w < 2 ^ 64
residual-lt x w h = let p : 2 ^ w ≤ 2 ^ 64 = pow-le-pow_right (omega arith) h in omega (arith, mod-lt x (pow_pos w))

pub counted-few : (k : Kind) (rs : List ℕ) → length rs ≤ 128 → length (counted k rs) ≤ 128
counted-few Plain rs h = h
counted-few Rising rs h = omega (arith, length-drop 1 rs)
counted-few Falling rs h = omega (arith, length-drop 1 rs)

-- ---- the first value

-- the first value of a plain block
pub plain-first : (vs : List ℤ) (b : Block) (r : ℕ) → IsBlockOf vs b → b.kind ≡ Plain → r ≡ get_or b.residuals 0 0 → height (get_or vs 0 (pos 0)) ≡ turned b.offset + b.factor * r
plain-first vs b r h k e = go b.kind b.first b.offset b.factor b.width b.residuals h k e
  where
    go : (k : Kind) (first o f w : ℕ) (rs : List ℕ) → IsBlockOf vs (record { kind = k; first = first; offset = o; factor = f; width = w; residuals = rs }) → k ≡ Plain → r ≡ get_or rs 0 0 → height (get_or vs 0 (pos 0)) ≡ turned o + f * r
    go Rising first o f w rs h k e = cc
    go Falling first o f w rs h k e = cc
    go Plain first o f w rs h k e =
        let some : 0 < length vs = omega (arith, values-count vs _ h, h.canonical.fits.some) in
        sym (get_or-map height vs 0 (pos 0) 0 some) ∙ ap (λ (z : List ℕ). get_or z 0 0) (sym h.values) ∙ number-at (turned o) f rs 0 0 h.canonical.fits.some ∙ ap (λ z. turned o + f * z) (sym e)

pub first-signed : (vs : List ℤ) (b : Block) → IsBlockOf vs b → FitsSigned w64 (get_or vs 0 (pos 0))
first-signed vs b h = h.signed 0 (pos 0) (omega (arith, values-count vs b h, h.canonical.fits.some))

pub steps-first : (vs : List ℤ) (b : Block) → IsBlockOf vs b → b.kind ≢ Plain → get_or vs 0 (pos 0) ≡ cast_signed w64 b.first
steps-first vs b h ne = first-sum vs b.kind b.first b.offset b.factor b.width b.residuals h ne
