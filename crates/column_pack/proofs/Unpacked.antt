use Rattle.std.proofs.Common.{◌≡◌, ℕ, ℤ, ◌+◌, ◌*◌, ◌<◌, ◌≤◌, List, [], ◌∷◌, ◌++◌, length, get_or, take, drop, set, map, sym, ◌∙◌, ap, subst, arith}
use Rattle.std.specs.List.{All, sum}
use Rattle.std.proofs.lemmas.List.{take_more, take_more_set, drop_more, drop-set-lt, drop-drop, map-append, append_assoc, drop_all}
use Rattle.std.proofs.lemmas.List.Elements.{All-get_or, All-push}
use Rattle.std.specs.Prelude.{FitsSigned}
use Rattle.std.specs.Int.{w64}
use Rattle.column_pack.specs.Block.{walk, place}
use Rattle.column_pack.specs.Parts.{numbers_of}
use Rattle.column_pack.specs.declared.parts.Kind.{Kind}
use Rattle.column_pack.specs.Laws.Sums.{sum-cons, number-at, length-numbers}

pub numbers-more : (o f : ℕ) (rs : List ℕ) (i : ℕ) → i < length rs → numbers_of o f (take (i + 1) rs) ≡ numbers_of o f (take i rs) ++ (o + f * get_or rs i 0) ∷ []
numbers-more o f rs i h =
    ap (numbers_of o f) (take_more rs i 0 h)
    ∙ ap (map (λ d. o + d)) (map-append (λ r. f * r) (take i rs) (get_or rs i 0 ∷ []))
    ∙ map-append (λ d. o + d) (map (λ r. f * r) (take i rs)) (f * get_or rs i 0 ∷ [])

pub numbers-drop : (o f : ℕ) (rs : List ℕ) (i : ℕ) → i < length rs → numbers_of o f (drop i rs) ≡ (o + f * get_or rs i 0) ∷ numbers_of o f (drop (i + 1) rs)
numbers-drop o f rs i h = ap (numbers_of o f) (drop_more rs i 0 h)

pub number-lt : (o f m : ℕ) (rs : List ℕ) (i : ℕ) → i < length rs → All (λ n. n < m) (numbers_of o f rs) → o + f * get_or rs i 0 < m
number-lt o f m rs i h all = subst (λ z. z < m) (number-at o f rs i 0 h) (All-get_or (λ n. n < m) (numbers_of o f rs) i 0 (omega (arith, length-numbers o f rs)) all)

-- one value more
pub placed-more : (k : Kind) (into : List ℤ) (i : ℕ) (v : ℤ) → i < length into → map (place k) (take (i + 1) (set into i v)) ≡ map (place k) (take i into) ++ place k v ∷ []
placed-more k into i v h = ap (map (place k)) (take_more_set into i v h) ∙ map-append (place k) (take i into) (v ∷ [])

pub behind-more : (into old : List ℤ) (i : ℕ) (v : ℤ) → drop i into ≡ drop i old → drop (i + 1) (set into i v) ≡ drop (i + 1) old
behind-more into old i v h = drop-set-lt (i + 1) into i v (omega arith) ∙ sym (drop-drop 1 i into) ∙ ap (drop 1) h ∙ drop-drop 1 i old

pub walked-more : (k : Kind) (into : List ℤ) (i at o f : ℕ) (rs all : List ℕ) (v : ℤ) → i < length into → i < length rs → place k v ≡ at
    → map (place k) (take i into) ++ walk at (numbers_of o f (drop i rs)) ≡ all
    → map (place k) (take (i + 1) (set into i v)) ++ walk (at + (o + f * get_or rs i 0)) (numbers_of o f (drop (i + 1) rs)) ≡ all
walked-more k into i at o f rs all v h l e w =
    let rest = walk (at + (o + f * get_or rs i 0)) (numbers_of o f (drop (i + 1) rs)) in
    ap (λ ys. ys ++ rest) (placed-more k into i v h ∙ ap (λ z. map (place k) (take i into) ++ z ∷ []) e)
    ∙ append_assoc (map (place k) (take i into)) (at ∷ []) rest
    ∙ ap (λ ys. map (place k) (take i into) ++ walk at ys) (sym (numbers-drop o f rs i l))
    ∙ w

pub walked-last : (k : Kind) (into : List ℤ) (i at o f : ℕ) (rs all : List ℕ) (v : ℤ) → i < length into → length rs ≤ i → place k v ≡ at
    → map (place k) (take i into) ++ walk at (numbers_of o f (drop i rs)) ≡ all
    → map (place k) (take (i + 1) (set into i v)) ≡ all
walked-last k into i at o f rs all v h l e w =
    placed-more k into i v h ∙ ap (λ z. map (place k) (take i into) ++ z ∷ []) e
    ∙ ap (λ ys. map (place k) (take i into) ++ walk at (numbers_of o f ys)) (sym (drop_all i rs l)) ∙ w

pub range-more : (at o f m i : ℕ) (rs : List ℕ) → i < length rs → at + sum (numbers_of o f (drop i rs)) < m → at + (o + f * get_or rs i 0) + sum (numbers_of o f (drop (i + 1) rs)) < m
range-more at o f m i rs h l =
    let e : sum (numbers_of o f (drop i rs)) ≡ (o + f * get_or rs i 0) + sum (numbers_of o f (drop (i + 1) rs)) =
    ap sum (numbers-drop o f rs i h) ∙ sum-cons (o + f * get_or rs i 0) (numbers_of o f (drop (i + 1) rs)) in
    omega arith

pub signed-more : (into : List ℤ) (i : ℕ) (v : ℤ) → i < length into → All (FitsSigned w64) (take i into) → FitsSigned w64 v → All (FitsSigned w64) (take (i + 1) (set into i v))
signed-more into i v h all f = subst (λ ys. All (FitsSigned w64) ys) (sym (take_more_set into i v h)) (All-push (FitsSigned w64) (take i into) v all f)
