use Rattle.std.proofs.Common.{◌≡◌, ℕ, suc, zero, ◌+◌, ◌-◌, ◌<◌, ◌≤◌, add-one, Bool, true, false, List, [], ◌∷◌, length, get_or, refl, ◌∙◌, ap, arith}
use Rattle.std.specs.Prelude.{◌||◌, nat_lt}
use borrow.Author.Tests.{ltb-false}
use Rattle.column_pack.specs.Block.{walk, falls, falls_after}

or-false : (a b : Bool) → (a || b) ≡ false → (a ≡ false) × (b ≡ false)
or-false true b h = cc
or-false false b h = (refl, h)

-- where no number falls each is at least the one before
pub kept-up : (p : ℕ) (ps : List ℕ) (i : ℕ) → falls_after p ps ≡ false → i < length ps → get_or (p ∷ ps) i 0 ≤ get_or ps i 0
kept-up p [] i h l = absurd (omega arith)
kept-up p (q ∷ ps) zero h l = omega (arith, ltb-false q p (or-false (nat_lt q p) (falls_after q ps) h).0)
kept-up p (q ∷ ps) (suc i) h l = kept-up q ps i (or-false (nat_lt q p) (falls_after q ps) h).1 (omega arith)

walk-steps : (p : ℕ) (ps ss : List ℕ) → length ss ≡ length ps → falls_after p ps ≡ false → ((k : ℕ) → k < length ss → get_or ss k 0 ≡ get_or ps k 0 - get_or (p ∷ ps) k 0) → walk p ss ≡ p ∷ ps
walk-steps p [] [] e h f = refl
walk-steps p (q ∷ ps) [] e h f = absurd (omega arith)
walk-steps p [] (s ∷ ss) e h f = absurd (omega arith)
walk-steps p (q ∷ ps) (s ∷ ss) e h f =
    let up : p ≤ q = kept-up p (q ∷ ps) 0 h (omega arith) in
    let a : p + s ≡ q = omega (arith, f 0 (omega arith)) in
    rw a (ap (λ ys. p ∷ ys) (walk-steps q ps ss (omega arith) (or-false (nat_lt q p) (falls_after q ps) h).1 (λ k l. f (suc k) (omega arith))))

pub walk-between : (ps ss : List ℕ) → 0 < length ps → length ss + 1 ≡ length ps → falls ps ≡ false → ((k : ℕ) → k < length ss → get_or ss k 0 ≡ get_or ps (k + 1) 0 - get_or ps k 0) → walk (get_or ps 0 0) ss ≡ ps
walk-between [] ss p e h f = absurd (omega arith)
walk-between (q ∷ ps) ss p e h f = walk-steps q ps ss (omega arith) h (λ k l. f k l ∙ ap (λ z. get_or (q ∷ ps) z 0 - get_or (q ∷ ps) k 0) (add-one k))

pub kept-up_between : (ps : List ℕ) (i : ℕ) → falls ps ≡ false → i + 1 < length ps → get_or ps i 0 ≤ get_or ps (i + 1) 0
kept-up_between [] i h l = absurd (omega arith)
kept-up_between (q ∷ ps) i h l = rw add-one (kept-up q ps i h (omega arith))

pub length-walk : (s : ℕ) (ss : List ℕ) → length (walk s ss) ≡ length ss + 1
length-walk s [] = refl
length-walk s (x ∷ ss) = omega (arith, length-walk (s + x) ss)
