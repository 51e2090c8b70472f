-- Lists that are held behind other bytes, and one more.
use Rattle.std.proofs.Common.{◌≡◌, ℕ, ℤ, ◌+◌, ◌<◌, ◌≤◌, ◌^◌, List, [], ◌∷◌, ◌++◌, length, take, drop, map, sym, ◌∙◌, ap, subst, arith}
use Rattle.std.specs.List.{All}
use Rattle.std.proofs.lemmas.List.{append_assoc, length-append, map-append, take-append-le, drop-append-le, drop_all, take_all}
use Rattle.std.proofs.lemmas.List.Elements.{All-nil, All-cons}
use Rattle.packed_lists.specs.Nums.{AreNums}
use Rattle.packed_lists.specs.Decoded.{IsBlockAt, AreBlocksAt, ArePlaced, values_at}
use Rattle.packed_lists.specs.Lists.{AreHeld}
use Rattle.packed_lists.specs.Packing.{IsPacked}
use Rattle.packed_lists.specs.Laws.Spelled.{nums-push, placed-before, placed-push}

-- bytes in front move the places of blocks
moved-at : (ahead bytes : List ℕ) (at : ℕ) (vs : List ℤ) → IsBlockAt bytes at vs → IsBlockAt (ahead ++ bytes) (at + length ahead) vs
moved-at ahead bytes at vs (front, block, rest, h, e, n) =
    (ahead ++ front, block, rest, h, ap (λ z. ahead ++ z) e ∙ sym (append_assoc ahead front (block ++ rest)), length-append ahead front ∙ omega (arith, n))

pub moved-blocks : (ahead bytes places : List ℕ) (vs : List ℤ) → AreBlocksAt bytes places vs → AreBlocksAt (ahead ++ bytes) (map (λ at. at + length ahead) places) vs
moved-blocks ahead bytes [] vs h = h
moved-blocks ahead bytes (at ∷ places) vs h = (moved-at ahead bytes at (take 128 vs) h.0, moved-blocks ahead bytes places (drop 128 vs) h.1)

-- blocks stand within their bytes
pub places-fit : (bytes places : List ℕ) (vs : List ℤ) (by : ℕ) → AreBlocksAt bytes places vs → length bytes + by < 2 ^ 64 → All (λ at. at + by < 2 ^ 64) places
places-fit bytes [] vs by h few = All-nil (λ at. at + by < 2 ^ 64)
places-fit bytes (at ∷ places) vs by h few = All-cons (λ at. at + by < 2 ^ 64) at places (within at h.0) (places-fit bytes places (drop 128 vs) by h.1 few)
  where
    within : (at : ℕ) → IsBlockAt bytes at (take 128 vs) → at + by < 2 ^ 64
    within at (front, block, rest, g, e, n) = omega (arith, few, n, ap (λ (z : List ℕ). length z) e, length-append front (block ++ rest))

pub none-held : (bytes lens : List ℕ) (places : List (List ℕ)) (front : ℕ) → front ≡ length bytes → places ≡ [] → lens ≡ [] → AreHeld front bytes places lens (map (values_at bytes) places) × (map (values_at bytes) places ≡ []) × (take front bytes ≡ bytes)
none-held bytes lens places front e f g =
    let none : map (values_at bytes) places ≡ [] = ap (map (values_at bytes)) f in (
      rw none (record {
        inside = omega (arith, e);
        spelled = ap (λ n. drop n bytes) e ∙ drop_all (length bytes) bytes (omega arith);
        placed = subst (λ z. ArePlaced bytes z []) (sym f) tt;
        counted = g;
      }),
      none,
      take_all front bytes (omega (arith, e)),
    )

-- one list more
pub more-held : (front len : ℕ) (bytes now lens more-lens more found : List ℕ) (places more-places : List (List ℕ)) (lists : List (List ℤ)) (vs : List ℤ)
    → AreHeld front bytes places lens lists → IsPacked more found len vs → now ≡ bytes ++ more → more-places ≡ places ++ map (λ at. at + length bytes) found ∷ [] → more-lens ≡ lens ++ len ∷ []
    → AreHeld front now more-places more-lens (lists ++ vs ∷ [])
more-held front len bytes now lens more-lens more found places more-places lists vs h k e f g =
    let behind : drop front now ≡ drop front bytes ++ more = ap (drop front) e ∙ drop-append-le front bytes more h.inside in
    record {
      inside = omega (arith, h.inside, ap (λ (z : List ℕ). length z) e, length-append bytes more);
      spelled = subst (AreNums (lists ++ vs ∷ [])) (sym behind) (nums-push lists vs (drop front bytes) more h.spelled k.spelled);
      placed = rw (e, f) (placed-push (bytes ++ more) places lists (map (λ at. at + length bytes) found) vs (placed-before bytes more places lists h.placed) (moved-blocks bytes more found vs k.placed));
      counted = g ∙ (ap (λ z. z ++ len ∷ []) h.counted ∙ (ap (λ z. map (λ (us : List ℤ). length us) lists ++ z ∷ []) k.count ∙ sym (map-append (λ (us : List ℤ). length us) lists (vs ∷ []))));
    }

pub front-kept : (front : ℕ) (bytes now more : List ℕ) → front ≤ length bytes → now ≡ bytes ++ more → take front now ≡ take front bytes
front-kept front bytes now more inside e = ap (take front) e ∙ take-append-le front bytes more inside
