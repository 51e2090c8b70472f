-- Blocks that are unpacked.
use Rattle.std.proofs.Common.{◌≡◌, ℕ, ℤ, pos, ◌+◌, ◌-◌, ◌*◌, ◌/◌, ◌%◌, ◌<◌, ◌≤◌, List, ◌++◌, length, take, drop, get_or, refl, sym, ◌∙◌, ap, subst, arith}
use Rattle.std.specs.List.{slice_range}
use Rattle.std.specs.Prelude.{min}
use Rattle.std.proofs.lemmas.List.{length-append, length-take, length-drop, take_rest, get_or-take, get_or-drop, drop-take, take-take}
use Rattle.column_pack.specs.Known.{BeginsWith}
use Rattle.packed_lists.specs.Decoded.{IsBlockAt, AreBlocksAt}
use Rattle.packed_lists.specs.Packing.{IsCached, IsLoaded, part_of}
use Rattle.packed_lists.specs.declared.cursor.Cache.{Cache}
use Rattle.packed_lists.specs.Laws.Fronts.{drop-front, take-front}
use Rattle.packed_lists.specs.Laws.Placing.{part-of-block, places-count}

pub begins-at : (bytes : List ℕ) (at : ℕ) (vs : List ℤ) → IsBlockAt bytes at vs → BeginsWith vs (take (length bytes - at) (drop at bytes))
begins-at bytes at vs (ahead, block, rest, h, e, n) = (block, rest, h, take_rest bytes at ∙ drop-front bytes ahead (block ++ rest) at e (sym n))

pub at-within : (bytes : List ℕ) (at : ℕ) (vs : List ℤ) → IsBlockAt bytes at vs → at ≤ length bytes
at-within bytes at vs (ahead, block, rest, h, e, n) = omega (arith, n, ap (λ (z : List ℕ). length z) e, length-append ahead (block ++ rest))

pub part-few : (vs : List ℤ) (block : ℕ) → length (part_of vs block) ≤ 128
part-few vs block = omega (arith, length-take 128 (drop (128 * block) vs))

pub part-length : (vs : List ℤ) (block : ℕ) → length (part_of vs block) ≡ min 128 (length vs - 128 * block)
part-length vs block = length-take 128 (drop (128 * block) vs) ∙ ap (min 128) (length-drop (128 * block) vs)

pub loaded-now : (vs : List ℤ) (block count : ℕ) (old new : List ℤ) → count ≡ length (part_of vs block) → new ≡ part_of vs block ++ drop (length (part_of vs block)) old
    → IsLoaded vs block (record { block = block; count = count; buffer = new })
loaded-now vs block count old new n e = record { which = refl; count = n; numbers = take-front new (part_of vs block) _ count e n }

pub loaded-cached : (vs : List ℤ) (block : ℕ) (c : Cache) → IsLoaded vs block c → IsCached vs c
loaded-cached vs block c h = record { numbers = λ _. h.numbers ∙ ap (part_of vs) (sym h.which); few = omega (arith, h.count, part-few vs block) }

-- the block of a place is one of those that there are
pub block-there : (bytes places : List ℕ) (vs : List ℤ) (place : ℕ) → AreBlocksAt bytes places vs → place < length vs → place / 128 < length places
block-there bytes places vs place h l = omega (arith, (places-count bytes places vs h).0)

pub loaded-at : (vs : List ℤ) (place : ℕ) (c : Cache) → IsLoaded vs (place / 128) c → place < length vs → get_or c.buffer (place % 128) (pos 0) ≡ get_or vs place (pos 0)
loaded-at vs place c h l =
    let inside : place % 128 < c.count = omega (arith, h.count, part-length vs (place / 128)) in
    let e : 128 * (place / 128) + place % 128 ≡ place = omega arith in
    sym (get_or-take c.count c.buffer (place % 128) (pos 0) inside)
    ∙ ap (λ (z : List ℤ). get_or z (place % 128) (pos 0)) h.numbers
    ∙ get_or-take 128 (drop (128 * (place / 128)) vs) (place % 128) (pos 0) (omega arith)
    ∙ get_or-drop (128 * (place / 128)) vs (place % 128) (pos 0)
    ∙ ap (λ z. get_or vs z (pos 0)) e

-- a part of a block that is loaded
pub loaded-part : (vs : List ℤ) (block from to : ℕ) (c : Cache) → IsLoaded vs block c → 128 * block ≤ from → from ≤ to → to ≤ 128 * block + 128 → to ≤ length vs
    → take (to - 128 * block - (from - 128 * block)) (drop (from - 128 * block) c.buffer) ≡ slice_range vs from to
loaded-part vs block from to c h a b d l =
    let first = 128 * block in
    let n = to - first - (from - first) in
    let inside : n + (from - first) ≤ c.count = omega (arith, h.count, part-length vs block) in
    sym (range-take (from - first) n c.count c.buffer inside)
    ∙ ap (λ z. take n (drop (from - first) z)) h.numbers
    ∙ part-of-block vs first from to a b d
  where
    range-take : (a n count : ℕ) (xs : List ℤ) → n + a ≤ count → take n (drop a (take count xs)) ≡ take n (drop a xs)
    range-take a n count xs h =
        let e : count ≡ a + (count - a) = omega arith in
        ap (λ z. take n (drop a (take z xs))) e ∙ ap (take n) (drop-take a (count - a) xs) ∙ take-take n (count - a) (drop a xs) (omega arith)

pub part-first : (vs : List ℤ) (block : ℕ) → get_or (part_of vs block) 0 (pos 0) ≡ get_or vs (128 * block) (pos 0)
part-first vs block =
    let e : 128 * block + 0 ≡ 128 * block = omega arith in
    get_or-take 128 (drop (128 * block) vs) 0 (pos 0) (omega arith) ∙ get_or-drop (128 * block) vs 0 (pos 0) ∙ ap (λ z. get_or vs z (pos 0)) e

-- a number of a loaded block
pub loaded-number : (vs : List ℤ) (block place : ℕ) (c : Cache) → IsLoaded vs block c → 128 * block ≤ place → place < 128 * block + 128 → place < length vs
    → get_or c.buffer (place - 128 * block) (pos 0) ≡ get_or vs place (pos 0)
loaded-number vs block place c h a b l =
    let k : place / 128 ≡ block = omega arith in
    let m : place % 128 ≡ place - 128 * block = omega (arith, k) in
    let g : IsLoaded vs (place / 128) c = subst (λ z. IsLoaded vs z c) (sym k) h in
    ap (λ z. get_or c.buffer z (pos 0)) (sym m) ∙ loaded-at vs place c g l
