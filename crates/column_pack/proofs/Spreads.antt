use Rattle.std.proofs.Common.{◌≡◌, ℕ, ◌*◌, ◌<◌, Bool, true, false, List, [], ◌∷◌, length, refl, sym, ◌∙◌, subst, arith}
use Prim.Native.Nat.{◌∣◌}
use Rattle.std.specs.Prelude.{◌↔◌}
use Rattle.std.specs.List.{All, Contains, sum}
use Rattle.std.proofs.lemmas.Bool.{le-ltb, eqb-true, eqb-false, not-true, not-false}
use lib.Dec.{eqb}
use mathlib.Core.Bool.{not}
use Rattle.std.proofs.lemmas.List.Elements.{All-head, All-tail}
use Rattle.std.proofs.lemmas.Nat.Gcd.{dvd-zero}
use Rattle.column_pack.specs.Block.{rises, falls, rises_after, falls_after}
use Rattle.column_pack.specs.Factor.{IsDivisor}
use Rattle.column_pack.specs.Spread.{IsSpread, IsMeasure}
use Rattle.column_pack.specs.Laws.Reduced.{zeros-greatest}
use Rattle.column_pack.specs.Laws.Sums.{sum-cons}

zeros : (rs : List ℕ) → All (λ r. r < 1) rs → All (λ r. r ≡ 0) rs
zeros rs h = λ k d l. omega (arith, h k d l)

zeros-sum : (rs : List ℕ) → All (λ r. r ≡ 0) rs → 0 ≡ sum rs
zeros-sum [] h = refl
zeros-sum (r ∷ rs) h = omega (arith, sum-cons r rs, All-head (λ r. r ≡ 0) r rs h, zeros-sum rs (All-tail (λ r. r ≡ 0) r rs h))

pub zeros-divisor : (rs : List ℕ) → All (λ r. r ≡ 0) rs → IsDivisor 0 rs
zeros-divisor rs h = record {
  divides = λ k d l. subst (λ z. 0 ∣ z) (sym (h k d l)) (dvd-zero 0);
  greatest = λ times c all. subst (λ z. c ∣ z) (omega-zero times) (dvd-zero c);
}
  where
    omega-zero : (t : ℕ) → 0 ≡ t * 0
    omega-zero t = omega arith

zeros-rise : (x : ℕ) (rs : List ℕ) → x ≡ 0 → All (λ r. r ≡ 0) rs → false ≡ rises_after x rs
zeros-rise x [] e h = refl
zeros-rise x (r ∷ rs) e h = let f : r ≡ 0 = All-head (λ r. r ≡ 0) r rs h in rw (le-ltb x r (omega arith)) (zeros-rise r rs f (All-tail (λ r. r ≡ 0) r rs h))

zeros-fall : (x : ℕ) (rs : List ℕ) → x ≡ 0 → All (λ r. r ≡ 0) rs → false ≡ falls_after x rs
zeros-fall x [] e h = refl
zeros-fall x (r ∷ rs) e h = let f : r ≡ 0 = All-head (λ r. r ≡ 0) r rs h in rw (le-ltb r x (omega arith)) (zeros-fall r rs f (All-tail (λ r. r ≡ 0) r rs h))

rises-zeros : (rs : List ℕ) → All (λ r. r ≡ 0) rs → false ≡ rises rs
rises-zeros [] h = refl
rises-zeros (r ∷ rs) h = zeros-rise r rs (All-head (λ r. r ≡ 0) r rs h) (All-tail (λ r. r ≡ 0) r rs h)

falls-zeros : (rs : List ℕ) → All (λ r. r ≡ 0) rs → false ≡ falls rs
falls-zeros [] h = refl
falls-zeros (r ∷ rs) h = zeros-fall r rs (All-head (λ r. r ≡ 0) r rs h) (All-tail (λ r. r ≡ 0) r rs h)

zeros-contain : (rs : List ℕ) (b : Bool) → (b ≡ true → 0 < length rs) → (b ≡ false → length rs ≡ 0) → All (λ r. r ≡ 0) rs → (b ≡ true) ↔ Contains rs 0
zeros-contain rs true f g h = ((λ e. (0, f refl, h 0 0 (f refl))), (λ k. refl))
zeros-contain rs false f g h = ((λ e. cc), (λ (k, l, e). absurd (omega (arith, g refl))))

pub flat-spread : (rs : List ℕ) (b : Bool) → (b ≡ true → 0 < length rs) → (b ≡ false → length rs ≡ 0) → All (λ r. r < 1) rs
    → IsSpread rs (record { greatest = 0; divisor = 0; total = 0; has_zero = b; rises = false; falls = false })
flat-spread rs b f g h = let z = zeros rs h in record {
  most = sym (zeros-greatest rs z);
  common = zeros-divisor rs z;
  whole = zeros-sum rs z;
  zero = zeros-contain rs b f g z;
  up = rises-zeros rs z;
  down = falls-zeros rs z;
}

pub some-length : (n : ℕ) (b : Bool) → b ≡ eqb n 0 → not b ≡ true → 0 < n
some-length n b e h = let ne : n ≡ 0 → ⊥ = eqb-false n 0 (sym e ∙ not-true b h) in omega arith

pub no-length : (n : ℕ) (b : Bool) → b ≡ eqb n 0 → not b ≡ false → n ≡ 0
no-length n b e h = eqb-true n 0 (sym e ∙ not-false b h)

pub flat-measure : (rs : List ℕ) → All (λ r. r < 1) rs → IsMeasure rs (record { greatest = 0; total = 0 })
flat-measure rs h = let z = zeros rs h in record { most = sym (zeros-greatest rs z); whole = zeros-sum rs z }
