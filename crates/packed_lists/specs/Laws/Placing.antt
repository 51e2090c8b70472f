-- Blocks put one behind the other, and found by their places.
use Rattle.std.proofs.Common.{◌≡◌, ℕ, ℤ, ◌+◌, ◌-◌, ◌*◌, ◌<◌, ◌≤◌, List, [], ◌∷◌, ◌++◌, length, get_or, take, drop, refl, sym, ◌∙◌, ap, subst, arith}
use Rattle.std.proofs.Common.{suc, zero}
use Rattle.std.specs.List.{slice_range}
use Rattle.std.specs.Int.{div_ceil}
use Rattle.std.proofs.Math.Seq.{take-add}
use Rattle.std.proofs.lemmas.List.{append_assoc, append-nil, take-append-le, drop-append-le, drop-drop, take_all, drop_all, length-drop, take_rest, drop-take, take-take}
use Rattle.column_pack.specs.Block.{IsBlock}
use Rattle.packed_lists.specs.Nums.{AreBlocksOf}
use Rattle.packed_lists.specs.Decoded.{IsBlockAt, AreBlocksAt}
use Rattle.packed_lists.specs.Laws.Fronts.{no-empty, drop-front}

-- one block more, behind whole ones
pub blocks-push : (blocks : List (List ℕ)) (us ws : List ℤ) (block : List ℕ) → AreBlocksOf blocks us → length us ≡ 128 * length blocks → IsBlock ws block → length ws ≤ 128
    → AreBlocksOf (blocks ++ block ∷ []) (us ++ ws)
blocks-push [] us ws block h n k few =
    let e : us ++ ws ≡ ws = ap (λ z. z ++ ws) h in
    subst (λ z. AreBlocksOf (block ∷ []) z) (sym e) (subst (λ z. IsBlock z block) (sym (take_all 128 ws few)) k, drop_all 128 ws few)
blocks-push (b ∷ bs) us ws block h n k few =
    let long : 128 ≤ length us = omega arith in (
      subst (λ z. IsBlock z b) (sym (take-append-le 128 us ws long)) h.0,
      subst (λ z. AreBlocksOf (bs ++ block ∷ []) z) (sym (drop-append-le 128 us ws long)) (blocks-push bs (drop 128 us) ws block h.1 (omega (arith, length-drop 128 us)) k few),
    )

pub block-before : (bytes more : List ℕ) (at : ℕ) (vs : List ℤ) → IsBlockAt bytes at vs → IsBlockAt (bytes ++ more) at vs
block-before bytes more at vs (ahead, block, rest, h, e, n) =
    (ahead, block, rest ++ more, h, ap (λ z. z ++ more) e ∙ append_assoc ahead (block ++ rest) more ∙ ap (λ z. ahead ++ z) (append_assoc block rest more), n)

-- bytes that follow change nothing
pub blocks-before : (bytes more places : List ℕ) (vs : List ℤ) → AreBlocksAt bytes places vs → AreBlocksAt (bytes ++ more) places vs
blocks-before bytes more [] vs h = h
blocks-before bytes more (at ∷ places) vs h = (block-before bytes more at (take 128 vs) h.0, blocks-before bytes more places (drop 128 vs) h.1)

pub places-push : (bytes places : List ℕ) (us ws : List ℤ) (at : ℕ) → AreBlocksAt bytes places us → length us ≡ 128 * length places → IsBlockAt bytes at ws → length ws ≤ 128
    → AreBlocksAt bytes (places ++ at ∷ []) (us ++ ws)
places-push bytes [] us ws at h n k few =
    let e : us ++ ws ≡ ws = ap (λ z. z ++ ws) h in
    subst (λ z. AreBlocksAt bytes (at ∷ []) z) (sym e) (subst (λ z. IsBlockAt bytes at z) (sym (take_all 128 ws few)) k, drop_all 128 ws few)
places-push bytes (p ∷ ps) us ws at h n k few =
    let long : 128 ≤ length us = omega arith in (
      subst (λ z. IsBlockAt bytes p z) (sym (take-append-le 128 us ws long)) h.0,
      subst (λ z. AreBlocksAt bytes (ps ++ at ∷ []) z) (sym (drop-append-le 128 us ws long)) (places-push bytes ps (drop 128 us) ws at h.1 (omega (arith, length-drop 128 us)) k few),
    )

-- a block that was put at the end
pub put-at : (old block : List ℕ) (ws : List ℤ) → IsBlock ws block → IsBlockAt (old ++ block) (length old) ws
put-at old block ws h = (old, block, [], h, ap (λ z. old ++ z) (sym (append-nil block)), refl)

-- the block at each place
pub block-of : (bytes places : List ℕ) (vs : List ℤ) (k : ℕ) → AreBlocksAt bytes places vs → k < length places → IsBlockAt bytes (get_or places k 0) (take 128 (drop (128 * k) vs))
block-of bytes [] vs k h l = absurd (omega arith)
block-of bytes (at ∷ places) vs zero h l = h.0
block-of bytes (at ∷ places) vs (suc k) h l =
    let e : drop (128 * k) (drop 128 vs) ≡ drop (128 * suc k) vs = drop-drop (128 * k) 128 vs ∙ ap (λ z. drop z vs) (omega arith) in
    subst (λ z. IsBlockAt bytes (get_or places k 0) (take 128 z)) e (block-of bytes places (drop 128 vs) k h.1 (omega arith))

-- there are as many places as blocks
pub places-count : (bytes places : List ℕ) (vs : List ℤ) → AreBlocksAt bytes places vs → (length vs ≤ 128 * length places) × (128 * length places < length vs + 128)
places-count bytes [] vs h = let e : length vs ≡ 0 = ap (λ (z : List ℤ). length z) h in (omega arith, omega arith)
places-count bytes (at ∷ places) vs h =
    let r = places-count bytes places (drop 128 vs) h.1 in
    let s : 0 < length vs = some vs h.0 in
    (omega (arith, r.0, length-drop 128 vs), omega (arith, r.0, r.1, s, length-drop 128 vs))
  where
    some : (v : List ℤ) → IsBlockAt bytes at (take 128 v) → 0 < length v
    some [] (ahead, block, rest, k, e, n) = absurd (no-empty block k)
    some (u ∷ us) k = omega arith

-- what is left of bytes from a block on
pub rest-at : (bytes ahead block rest : List ℕ) (at : ℕ) → bytes ≡ ahead ++ (block ++ rest) → length ahead ≡ at → take (length bytes - at) (drop at bytes) ≡ block ++ rest
rest-at bytes ahead block rest at e n = take_rest bytes at ∙ drop-front bytes ahead (block ++ rest) at e (sym n)

-- a part of a list, by the block that it stands in
pub part-of-block : {A : Type 0} (vs : List A) (first from to : ℕ) → first ≤ from → from ≤ to → to ≤ first + 128 → slice_range (take 128 (drop first vs)) (from - first) (to - first) ≡ slice_range vs from to
part-of-block vs first from to a b d =
    let n : to - first - (from - first) ≡ to - from = omega arith in
    let m : first + (from - first) ≡ from = omega arith in
    let e : 128 ≡ (from - first) + (128 - (from - first)) = omega arith in
    let less : to - from ≤ 128 - (from - first) = omega arith in
    ap (λ z. take z (drop (from - first) (take 128 (drop first vs)))) n
    ∙ ap (λ z. take (to - from) (drop (from - first) (take z (drop first vs)))) e
    ∙ ap (take (to - from)) (drop-take (from - first) (128 - (from - first)) (drop first vs))
    ∙ take-take (to - from) (128 - (from - first)) (drop (from - first) (drop first vs)) less
    ∙ ap (take (to - from)) (drop-drop (from - first) first vs ∙ ap (λ z. drop z vs) m)

-- a range that goes on to another place
pub range-on : {A : Type 0} (xs : List A) (from at to : ℕ) → from ≤ at → at ≤ to → slice_range xs from to ≡ slice_range xs from at ++ slice_range xs at to
range-on xs from at to order more =
    let e : to - from ≡ at - from + (to - at) = omega arith in
    let d : from + (at - from) ≡ at = omega arith in
    ap (λ z. take z (drop from xs)) e ∙ take-add (at - from) (to - at) (drop from xs) ∙ ap (λ z. take (at - from) (drop from xs) ++ take (to - at) z) (drop-drop (at - from) from xs ∙ ap (λ z. drop z xs) d)

pub range-none : {A : Type 0} (xs : List A) (at : ℕ) → slice_range xs at at ≡ []
range-none xs at = let e : at - at ≡ 0 = omega arith in ap (λ z. take z (drop at xs)) e

-- as many places as blocks
pub places-blocks : (bytes places : List ℕ) (vs : List ℤ) → AreBlocksAt bytes places vs → length places ≡ div_ceil (length vs) 128
places-blocks bytes places vs h = let r = places-count bytes places vs h in omega (arith, r.0, r.1)

-- the numbers of a block as a range
pub block-range : {A : Type 0} (vs : List A) (k : ℕ) → take 128 (drop (128 * k) vs) ≡ slice_range vs (128 * k) (128 * k + 128)
block-range vs k = let n : 128 ≡ 128 * k + 128 - 128 * k = omega arith in ap (λ z. take z (drop (128 * k) vs)) n
