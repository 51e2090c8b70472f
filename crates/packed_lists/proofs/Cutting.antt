-- Where numbers that fall pass a bound.
use Rattle.std.proofs.Common.{◌≡◌, ℕ, ℤ, pos, ◌+◌, ◌-◌, ◌*◌, ◌/◌, ◌<◌, ◌≤◌, List, length, get_or, sym, ap, subst, arith, inl, inr}
use Rattle.std.specs.Prelude.{◌≤ℤ◌, ◌<ℤ◌, max, min}
use Rattle.std.proofs.lemmas.Bool.{cases_lt}
use Rattle.std.proofs.lemmas.Int.{ints}
use Rattle.std.proofs.Math.Nat.{mul-le-mul_left, mul-suc, pow-suc}
use Rattle.std.specs.Int.{div_ceil}
use Rattle.std.proofs.Common.{◌^◌, suc, zero, ◌∙◌}
use Rattle.packed_lists.specs.EdgeIn.{IsEdgeIn}
use Rattle.packed_lists.specs.Falling.{Fall, IsEdge, IsBlockEdge}
use Rattle.packed_lists.specs.Packing.{IsLoaded}
use Rattle.packed_lists.specs.declared.cursor.Cache.{Cache}
use Rattle.packed_lists.proofs.Loading.{loaded-number}

-- an edge of the block is one of the list
pub edge-of : (vs : List ℤ) (from to block place : ℕ) (bound : ℤ) (c : Cache) → from < to → to ≤ length vs → IsBlockEdge vs (from / 128) ((to - 1) / 128) block bound → IsLoaded vs block c → IsEdgeIn c from to place bound → IsEdge vs from to place bound
edge-of vs from to block place bound c some within e h i =
    let w = h.which in
    let start : 128 * c.block ≡ 128 * block = ap (λ z. 128 * z) w in
    record {
      low = omega (arith, i.low);
      high = omega (arith, i.high);
      before = λ l. elim (cases_lt (max from (128 * c.block)) place) [
        | inl inside ↦
            let m : 128 * block ≤ place - 1 = omega (arith, inside, start) in
            let n : place - 1 < 128 * block + 128 = omega (arith, i.high, start) in
            let v : get_or c.buffer (place - 1 - 128 * block) (pos 0) ≡ get_or vs (place - 1) (pos 0) = loaded-number vs block (place - 1) c h m n (omega (arith, i.high, within)) in
            let b : bound ≤ℤ get_or c.buffer (place - 1 - 128 * block) (pos 0) = subst (λ z. bound ≤ℤ get_or c.buffer (place - 1 - z) (pos 0)) start (i.before inside) in
            subst (λ z. bound ≤ℤ z) v b
        | inr none ↦
            let at : place ≡ 128 * block = omega (arith, i.low, none, start) in
            let first : from / 128 < block = omega (arith, at) in
            let up = e.before first in
            let inside : place < min to (128 * c.block + 128) = omega (arith, at, start, e.high) in
            let b : get_or c.buffer (place - 128 * block) (pos 0) <ℤ bound = subst (λ z. get_or c.buffer (place - z) (pos 0) <ℤ bound) start (i.behind inside) in
            let v : get_or c.buffer (place - 128 * block) (pos 0) ≡ get_or vs place (pos 0) = loaded-number vs block place c h (omega (arith, at)) (omega (arith, at)) (omega (arith, inside, within)) in
            let down : get_or vs (128 * block) (pos 0) <ℤ bound = subst (λ z. get_or vs z (pos 0) <ℤ bound) at (subst (λ z. z <ℤ bound) v b) in
            absurd (omega (arith, ints, up, down))
      ];
      behind = λ l. elim (cases_lt place (min to (128 * c.block + 128))) [
        | inl inside ↦
            let b : get_or c.buffer (place - 128 * block) (pos 0) <ℤ bound = subst (λ z. get_or c.buffer (place - z) (pos 0) <ℤ bound) start (i.behind inside) in
            let v : get_or c.buffer (place - 128 * block) (pos 0) ≡ get_or vs place (pos 0) = loaded-number vs block place c h (omega (arith, i.low, start)) (omega (arith, inside, start)) (omega (arith, l, within)) in
            subst (λ z. z <ℤ bound) v b
        | inr none ↦
            let at : place ≡ 128 * (block + 1) = omega (arith, none, i.high, l, start) in
            let more : block < (to - 1) / 128 = omega (arith, at, l) in
            subst (λ z. get_or vs z (pos 0) <ℤ bound) (sym at) (e.behind more)
      ];
    }

pub edge-before : (vs : List ℤ) (from to place : ℕ) (bound : ℤ) → Fall vs from to → IsEdge vs from to place bound → (k : ℕ) → from ≤ k → k < place → bound ≤ℤ get_or vs k (pos 0)
edge-before vs from to place bound f e k a b = elim (cases_lt k (place - 1)) [
  | inl l ↦ omega (arith, ints, f k (place - 1) a l (omega (arith, e.high)), e.before (omega arith))
  | inr l ↦ let at : place - 1 ≡ k = omega arith in subst (λ z. bound ≤ℤ get_or vs z (pos 0)) at (e.before (omega arith))
]

pub edge-behind : (vs : List ℤ) (from to place : ℕ) (bound : ℤ) → Fall vs from to → IsEdge vs from to place bound → (k : ℕ) → place ≤ k → k < to → get_or vs k (pos 0) <ℤ bound
edge-behind vs from to place bound f e k a b = elim (cases_lt place k) [
  | inl l ↦ omega (arith, ints, f place k e.low l b, e.behind (omega arith))
  | inr l ↦ let at : place ≡ k = omega arith in subst (λ z. get_or vs z (pos 0) <ℤ bound) at (e.behind (omega arith))
]

-- ---- how many blocks are read

pub doubled : (new old start : ℕ) → start ≤ old → new ≡ old + 1 → 2 ^ (new - start) ≡ 2 * 2 ^ (old - start)
doubled new old start below is =
    let next : new - start ≡ suc (old - start) = omega arith in
    ap (λ n. 2 ^ n) next ∙ (pow-suc 2 (old - start) ∙ omega arith)

-- a step that finds the block
pub paid : (p q b n : ℕ) → p * b ≤ n → 1 ≤ b → q ≡ 2 * p → q ≤ max 1 (2 * n)
paid p q zero n rest some is = absurd (omega (arith, some))
paid p q (suc b) n rest some is = omega (arith, rest, is, mul-suc p b)

-- a step that leaves at most half of the blocks
pub left-over : (p q b c n : ℕ) → p * b ≤ n → 2 * c ≤ b → q ≡ 2 * p → q * c ≤ n
left-over p q b c n rest half is =
    let scaled : p * (2 * c) ≤ p * b = mul-le-mul_left p half in
    let same : q * c ≡ p * (2 * c) = ap (λ t. t * c) is ∙ omega arith in
    omega (arith, same, scaled, rest)

-- the block itself is one more
pub all-paid : (p q from to len : ℕ) → from < to → to ≤ len → p ≤ max 1 (2 * ((to - 1) / 128 - from / 128)) → q ≡ 2 * p → q ≤ 4 * max 1 (div_ceil len 128)
all-paid p q from to len some within h is = omega arith
