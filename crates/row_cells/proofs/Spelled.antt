-- What a read of a text shows, and the walk over dimensions.
use Rattle.std.specs.Prelude.{◌≡◌, ℕ, zero, suc, List, [], ◌∷◌, ◌++◌, ◌<◌, ◌^◌, ◌+◌, length}
use Rattle.std.specs.Int.{w16, from_be_bytes}
use Rattle.std.proofs.Common.{refl, ap, ◌∙◌, sym, arith, get_or, take, drop, subst, length-append}
use Rattle.std.proofs.lemmas.List.{take-append-drop, length-take}
use Rattle.row_cells.specs.Dimensions.{Dimension, text_bytes, value_bytes, dimension_bytes, key_bytes, IsDimension, IsBefore, AreDimensionsAfter, SpellDimensionsAfter}
use Rattle.row_cells.specs.KeyLaws.{text_bytes_read, dimension_bytes_injective}

pub small_take : (n : ℕ) (xs : List ℕ) → ((i : ℕ) → get_or xs i 0 < 256) → (i : ℕ) → get_or (take n xs) i 0 < 256
small_take zero xs small i = omega arith
small_take (suc n) [] small i = omega arith
small_take (suc n) (x ∷ xs) small zero = small 0
small_take (suc n) (x ∷ xs) small (suc i) = small_take n xs (λ k. small (suc k)) i

-- the first two bytes count the text that follows
pub text_split : (bytes head tail text rest : List ℕ) (count : ℕ) → ((i : ℕ) → get_or bytes i 0 < 256) → head ≡ take 2 bytes → tail ≡ drop 2 bytes → length tail + 2 ≡ length bytes → count ≡ from_be_bytes w16 head → count < 2 ^ 16 → text ≡ take count tail → rest ≡ drop count tail → length text ≡ count → (bytes ≡ text_bytes text ++ rest) × (length text < 2 ^ 16)
text_split bytes head tail text rest count small head_is tail_is long counted short text_is rest_is whole =
    let two : length head ≡ 2 = omega (arith, ap length head_is, length-take 2 bytes, long) in
    let head_small : (i : ℕ) → get_or head i 0 < 256 = λ i. rw head_is (small_take 2 bytes small i) in
    let joined : bytes ≡ head ++ (text ++ rest) = sym (rw (head_is, text_is, rest_is, take-append-drop count tail, tail_is) (take-append-drop 2 bytes)) in
    (joined ∙ text_bytes_read head text rest two head_small (whole ∙ counted), omega (arith, whole, short))

-- ---- the walk over the dimensions

not_nothing : (d : Dimension) (rest : List ℕ) → [] ≡ dimension_bytes d ++ rest → ⊥
not_nothing d rest none = nothing_is_long d.path (value_bytes d.value) rest none
  where
    nothing_is_long : (t v rest : List ℕ) → [] ≡ (text_bytes t ++ v) ++ rest → ⊥
    nothing_is_long t v rest none = cc

pub spelled_none : (below bytes : List ℕ) → length bytes ≡ 0 → SpellDimensionsAfter below bytes
spelled_none below [] empty = record { dimensions = []; ascending = tt; spelled = refl }
spelled_none below (b ∷ bytes) empty = absurd (omega (arith, empty))

-- what follows a dimension spells the others
pub spelled_after : (below bytes rest : List ℕ) (d : Dimension) → IsDimension d → bytes ≡ dimension_bytes d ++ rest → SpellDimensionsAfter below bytes → IsBefore below d.path × SpellDimensionsAfter d.path rest
spelled_after below bytes rest d is_d begins spells = go spells.dimensions spells.ascending (spells.spelled ∙ begins)
  where
    go : (ds : List Dimension) → AreDimensionsAfter below ds → key_bytes ds ≡ dimension_bytes d ++ rest → IsBefore below d.path × SpellDimensionsAfter d.path rest
    go [] ascending same = absurd (not_nothing d rest same)
    go (e ∷ es) ascending same =
        let here = dimension_bytes_injective e d (key_bytes es) rest ascending.1 is_d same in
        let path : e.path ≡ d.path = ap (λ x. x.path) here.dimension in
        (subst (λ p. IsBefore below p) path ascending.0, record { dimensions = es; ascending = subst (λ p. AreDimensionsAfter p es) path ascending.2; spelled = here.rest_is })

pub spelled_before : (below bytes rest : List ℕ) (d : Dimension) → IsDimension d → bytes ≡ dimension_bytes d ++ rest → IsBefore below d.path → SpellDimensionsAfter d.path rest → SpellDimensionsAfter below bytes
spelled_before below bytes rest d is_d begins before spells =
    record { dimensions = d ∷ spells.dimensions; ascending = (before, is_d, spells.ascending); spelled = ap (λ t. dimension_bytes d ++ t) spells.spelled ∙ sym begins }

-- bytes that spell dimensions begin with one, or there are none
pub spelled_begins : (below bytes : List ℕ) → 0 < length bytes → ((d : Dimension) (rest : List ℕ) → IsDimension d → bytes ≡ dimension_bytes d ++ rest → ⊥) → SpellDimensionsAfter below bytes → ⊥
spelled_begins below bytes some none spells = go spells.dimensions spells.ascending spells.spelled
  where
    go : (ds : List Dimension) → AreDimensionsAfter below ds → key_bytes ds ≡ bytes → ⊥
    go [] ascending same = absurd (omega (arith, ap length same, some))
    go (e ∷ es) ascending same = none e (key_bytes es) ascending.1 (sym same)

-- a dimension takes bytes
pub shorter_after : (bytes rest : List ℕ) (d : Dimension) → bytes ≡ dimension_bytes d ++ rest → length rest < length bytes
shorter_after bytes rest d begins = omega (arith, ap length begins, length-append (dimension_bytes d) rest, longer d.path (value_bytes d.value))
  where
    longer : (t v : List ℕ) → 0 < length (text_bytes t ++ v)
    longer t v = omega arith
