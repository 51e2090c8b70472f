-- Numbers of 128 bits by their halves.
use Rattle.std.proofs.Common.{◌≡◌, ℕ, ℤ, suc, pos, negsuc, ◌+◌, ◌*◌, ◌<◌, ◌^◌, refl, ◌∙◌, ap, arith}
use Rattle.std.specs.Prelude.{FitsSigned, unsigned_abs, ◌+ℤ◌, ◌*ℤ◌}
use Rattle.std.specs.Int.{w64, int_rem_euclid, int_div_euclid, cast_unsigned, cast_signed}
use Rattle.std.proofs.lemmas.Int.{ints, of_z-to_z, to_z-of_z, int_rem_euclid_is}
use Rattle.std.proofs.Math.Facts.{Fits-of_z}
use Rattle.std.proofs.Math.Nat.{add-mul-mod_self_left, mod-eq_of_lt}
use Rattle.column_block.specs.Spelling.{high, low, whole_of}

rest-small : (s : ℤ) → unsigned_abs (int_rem_euclid s (pos (2 ^ 64))) < 2 ^ 64
rest-small (pos a) = omega arith
rest-small (negsuc a) = omega arith

rest-is : (s : ℤ) → (int_div_euclid s (pos (2 ^ 64)) *ℤ pos (2 ^ 64)) +ℤ pos (unsigned_abs (int_rem_euclid s (pos (2 ^ 64)))) ≡ s
rest-is (pos a) = omega (arith, ints)
rest-is (negsuc a) = omega (arith, ints)

pub joined : (s : ℤ) → whole_of (high s) (low s) ≡ s
joined s = ap (λ z. (high s *ℤ pos (2 ^ 64)) +ℤ pos z) (of_z-to_z w64 (unsigned_abs (int_rem_euclid s (pos (2 ^ 64)))) (rest-small s)) ∙ rest-is s

rest-of : (h : ℤ) (u : ℕ) → u < 2 ^ 64 → unsigned_abs (int_rem_euclid ((h *ℤ pos (2 ^ 64)) +ℤ pos u) (pos (2 ^ 64))) ≡ u
rest-of (pos a) u small =
    let e : ((pos a *ℤ pos (2 ^ 64)) +ℤ pos u) +ℤ pos (0 * 2 ^ 64) ≡ pos (u + 2 ^ 64 * a) = omega (arith, ints) in
    ap unsigned_abs (int_rem_euclid_is ((pos a *ℤ pos (2 ^ 64)) +ℤ pos u) (pos (2 ^ 64)) (2 ^ 64) 0 (u + 2 ^ 64 * a) (omega arith) refl e) ∙ add-mul-mod_self_left u (2 ^ 64) a ∙ mod-eq_of_lt small
rest-of (negsuc a) u small =
    let e : ((negsuc a *ℤ pos (2 ^ 64)) +ℤ pos u) +ℤ pos (suc a * 2 ^ 64) ≡ pos u = omega (arith, ints) in
    ap unsigned_abs (int_rem_euclid_is ((negsuc a *ℤ pos (2 ^ 64)) +ℤ pos u) (pos (2 ^ 64)) (2 ^ 64) (suc a) u (omega arith) refl e) ∙ mod-eq_of_lt small

pub low-again : (h l : ℤ) → FitsSigned w64 l → low (whole_of h l) ≡ l
low-again h l f =
    let m : unsigned_abs (int_rem_euclid (whole_of h l) (pos (2 ^ 64))) ≡ cast_unsigned w64 l = rest-of h (cast_unsigned w64 l) (omega (arith, (Fits-of_z f).fits)) in
    ap (cast_signed w64) m ∙ to_z-of_z w64 l f

same-times : (a b : ℤ) (u v : ℕ) → u ≡ v → (a *ℤ pos (2 ^ 64)) +ℤ pos u ≡ (b *ℤ pos (2 ^ 64)) +ℤ pos v → a ≡ b
same-times a b u v e h = omega (arith, ints)

pub high-again : (h l : ℤ) → FitsSigned w64 l → high (whole_of h l) ≡ h
high-again h l f =
    same-times (high (whole_of h l)) h (unsigned_abs (int_rem_euclid (whole_of h l) (pos (2 ^ 64)))) (cast_unsigned w64 l) (rest-of h (cast_unsigned w64 l) (omega (arith, (Fits-of_z f).fits))) (rest-is (whole_of h l))
