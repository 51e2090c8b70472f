use Rattle.std.proofs.Common.{◌≡◌, ℕ, suc, zero, ◌+◌, ◌*◌, ◌/◌, ◌<◌, List, [], ◌∷◌, length, refl, ◌∙◌, ap, arith}
use Rattle.std.specs.List.{All, sum}
use Rattle.std.proofs.lemmas.List.Elements.{All-head, All-tail}
use Rattle.std.proofs.Math.Nat.{add-mul-div_left}
use Rattle.column_pack.specs.Block.{walk}
use Rattle.column_pack.specs.Parts.{numbers_of}
use Rattle.column_pack.specs.Laws.Sums.{sum-cons}

-- 1 + 2 + .. + n
below : ℕ → ℕ
below zero = 0
below (suc n) = suc n + below n

below-is : (n : ℕ) → n * (n + 1) / 2 ≡ below n
unfolding below
below-is zero = refl
below-is (suc n) =
    let e : suc n * (suc n + 1) ≡ n * (n + 1) + 2 * (n + 1) = omega arith in
    rw (e, add-mul-div_left (n * (n + 1)) (n + 1) {y = 2} (omega arith)) (omega (arith, below-is n))

flat-walk : (s o f : ℕ) (rs : List ℕ) → All (λ r. r < 1) rs → s * (length rs + 1) + o * below (length rs) ≡ sum (walk s (numbers_of o f rs))
unfolding below
flat-walk s o f [] h = omega arith
flat-walk s o f (r ∷ rs) h =
    let z : r ≡ 0 = omega (arith, All-head (λ r. r < 1) r rs h) in
    let m : f * r ≡ 0 = ap (λ y. f * y) z ∙ omega arith in
    let e : s + (o + f * r) ≡ s + o = omega arith in
    let ih : (s + o) * (length rs + 1) + o * below (length rs) ≡ sum (walk (s + o) (numbers_of o f rs)) = flat-walk (s + o) o f rs (All-tail (λ r. r < 1) r rs h) in
    rw (e, sum-cons s (walk (s + o) (numbers_of o f rs)), ← ih) (omega arith)

pub flat-total : (s o f : ℕ) (rs : List ℕ) → All (λ r. r < 1) rs → s * (length rs + 1) + o * (length rs * (length rs + 1) / 2) ≡ sum (walk s (numbers_of o f rs))
flat-total s o f rs h = rw (below-is (length rs)) (flat-walk s o f rs h)
