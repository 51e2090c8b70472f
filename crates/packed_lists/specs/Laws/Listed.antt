-- Several lists by the places of their blocks.
use Rattle.std.proofs.Common.{◌≡◌, ℕ, ℤ, suc, zero, ◌<◌, List, [], ◌∷◌, length, get_or, map, refl, ◌∙◌, ap, arith}
use Rattle.packed_lists.specs.Decoded.{AreBlocksAt, ArePlaced, values_at}
use Rattle.packed_lists.specs.Laws.Decodes.{values_at-is}

pub places-lists : (bytes : List ℕ) (places : List (List ℕ)) (lists : List (List ℤ)) → ArePlaced bytes places lists → length places ≡ length lists
places-lists bytes [] [] h = refl
places-lists bytes [] (vs ∷ lists) h = absurd h
places-lists bytes (p ∷ ps) [] h = absurd h
places-lists bytes (p ∷ ps) (vs ∷ lists) h = ap suc (places-lists bytes ps lists h.1)

pub placed-at : (bytes : List ℕ) (places : List (List ℕ)) (lists : List (List ℤ)) (k : ℕ) → ArePlaced bytes places lists → k < length lists → AreBlocksAt bytes (get_or places k []) (get_or lists k [])
placed-at bytes [] [] k h l = absurd (omega arith)
placed-at bytes [] (vs ∷ lists) k h l = absurd h
placed-at bytes (p ∷ ps) [] k h l = absurd h
placed-at bytes (p ∷ ps) (vs ∷ lists) zero h l = h.0
placed-at bytes (p ∷ ps) (vs ∷ lists) (suc k) h l = placed-at bytes ps lists k h.1 (omega arith)

pub lists-are : (bytes : List ℕ) (places : List (List ℕ)) (lists : List (List ℤ)) → ArePlaced bytes places lists → map (values_at bytes) places ≡ lists
lists-are bytes [] [] h = refl
lists-are bytes [] (vs ∷ lists) h = absurd h
lists-are bytes (p ∷ ps) [] h = absurd h
lists-are bytes (p ∷ ps) (vs ∷ lists) h = ap (λ z. z ∷ map (values_at bytes) ps) (values_at-is bytes p vs h.0) ∙ ap (λ z. vs ∷ z) (lists-are bytes ps lists h.1)
