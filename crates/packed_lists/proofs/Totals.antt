-- Sums of numbers of 64 bits.
use Rattle.std.proofs.Common.{◌≡◌, ℕ, ℤ, pos, negsuc, ◌+◌, ◌*◌, ◌^◌, ◌<◌, ◌≤◌, List, [], ◌∷◌, ◌++◌, length, take, drop, ◌∙◌, ap, arith}
use Rattle.std.specs.Prelude.{FitsSigned, ◌+ℤ◌, ◌≤ℤ◌, unsigned_abs, slice_range}
use Rattle.std.specs.Int.{w64, w128}
use Rattle.std.specs.List.{All}
use Rattle.std.proofs.lemmas.Int.{ints, fits_signed_from_abs}
use Rattle.std.proofs.lemmas.List.{length-take, take_all}
use Rattle.std.proofs.lemmas.List.Elements.{All-head, All-tail, All-take}
use Rattle.std.proofs.Math.Seq.{take-add}
use Rattle.column_pack.specs.Summary.{total_of}
use Rattle.packed_lists.specs.Laws.Placing.{block-range}

above : (a : ℤ) → a ≤ℤ pos (unsigned_abs a)
above (pos n) = omega (arith, ints)
above (negsuc n) = omega (arith, ints)

below : (a : ℤ) → pos 0 ≤ℤ (a +ℤ pos (unsigned_abs a))
below (pos n) = omega (arith, ints)
below (negsuc n) = omega (arith, ints)

within : (a : ℤ) (n : ℕ) → a ≤ℤ pos n → pos 0 ≤ℤ (a +ℤ pos n) → unsigned_abs a ≤ n
within (pos m) n h k = omega (arith, ints)
within (negsuc m) n h k = omega (arith, ints)

few : (v : ℤ) → FitsSigned w64 v → unsigned_abs v ≤ 2 ^ 63
few (pos n) fits = omega (arith, ints, fits)
few (negsuc n) fits = omega (arith, ints, fits)

total-few : (vs : List ℤ) → All (FitsSigned w64) vs → unsigned_abs (total_of vs) ≤ 2 ^ 63 * length vs
total-few [] h = omega (arith, ints)
total-few (v ∷ vs) h =
    let a = few v (All-head (FitsSigned w64) v vs h) in
    let b = total-few vs (All-tail (FitsSigned w64) v vs h) in
    within (v +ℤ total_of vs) (2 ^ 63 * length (v ∷ vs)) (omega (arith, ints, above v, above (total_of vs), a, b)) (omega (arith, ints, below v, below (total_of vs), a, b))

total-append : (us vs : List ℤ) → total_of (us ++ vs) ≡ total_of us +ℤ total_of vs
total-append [] vs = omega (arith, ints)
total-append (u ∷ us) vs = ap (λ z. u +ℤ z) (total-append us vs) ∙ omega (arith, ints)

-- the numbers of a block more
pub total-on : (vs : List ℤ) (k : ℕ) → total_of (take (128 * (k + 1)) vs) ≡ total_of (take (128 * k) vs) +ℤ total_of (slice_range vs (128 * k) (128 * k + 128))
total-on vs k =
    let e : 128 * (k + 1) ≡ 128 * k + 128 = omega arith in
    ap (λ z. total_of (take z vs)) e ∙ ap total_of (take-add (128 * k) 128 vs) ∙ total-append (take (128 * k) vs) (take 128 (drop (128 * k) vs)) ∙ ap (λ z. total_of (take (128 * k) vs) +ℤ total_of z) (block-range vs k)

pub total-fits : (vs : List ℤ) (k : ℕ) → All (FitsSigned w64) vs → length vs < 2 ^ 64 → FitsSigned w128 (total_of (take k vs))
total-fits vs k h short = fits_signed_from_abs w128 (total_of (take k vs)) (omega (arith, total-few (take k vs) (All-take (FitsSigned w64) k vs h), length-take k vs))

pub total-all : (vs : List ℤ) (k : ℕ) → length vs ≤ 128 * k → total_of (take (128 * k) vs) ≡ total_of vs
total-all vs k h = ap total_of (take_all (128 * k) vs h)
