-- Bytes spell at most one list of dimensions.
use Rattle.std.specs.Prelude.{◌≡◌, ℕ, ℤ, pos, negsuc, ◌≤ℤ◌, ◌+ℤ◌, ◌-ℤ◌, ◌<◌, ◌≤◌, ◌^◌, List, [], ◌∷◌, ◌++◌, length, Bool, true, false, FitsSigned, unsigned_abs}
use Rattle.std.specs.Int.{w16, w64, to_be_bytes, from_be_bytes}
use Rattle.std.proofs.Common.{refl, ap, ◌∙◌, sym, arith, get_or, append_assoc, take, drop, length-append}
use Rattle.std.proofs.Math.Seq.{take-append_seam, drop-append_seam}
use Rattle.std.proofs.lemmas.Int.{ints}
use Rattle.std.proofs.lemmas.Nat.{from_be_bytes-to_be_bytes_2, from_be_bytes-to_be_bytes_8, be_bytes_2, be_bytes_8}
use Rattle.row_cells.specs.declared.scalars.Scalar.{Scalar}
use Rattle.row_cells.specs.declared.scalars.Scalar.TheVariants.{Whole, Flag, Word}
use Rattle.row_cells.specs.Dimensions.{Dimension, text_bytes, above_least, flag_byte, value_bytes, dimension_bytes, key_bytes, IsKeyValue, IsDimension, AreDimensionsAfter}

-- two joined lists that are equal have equal fronts of equal length
pub same_front : (a b c d : List ℕ) → length a ≡ length c → a ++ b ≡ c ++ d → a ≡ c
same_front a b c d long same = sym (take-append_seam a b) ∙ (ap (take (length a)) same ∙ (ap (λ n. take n (c ++ d)) long ∙ take-append_seam c d))

pub same_back : (a b c d : List ℕ) → length a ≡ length c → a ++ b ≡ c ++ d → b ≡ d
same_back a b c d long same = sym (drop-append_seam a b) ∙ (ap (drop (length a)) same ∙ (ap (λ n. drop n (c ++ d)) long ∙ drop-append_seam c d))

-- ---- texts

pub record SameText (t u rest rest' : List ℕ) : Type 0 where
  pub text : t ≡ u
  pub rest_is : rest ≡ rest'

-- a text's bytes say where it ends
pub text_bytes_injective : (t u rest rest' : List ℕ) → length t < 2 ^ 16 → length u < 2 ^ 16 → text_bytes t ++ rest ≡ text_bytes u ++ rest' → SameText t u rest rest'
text_bytes_injective t u rest rest' short_t short_u same =
    let split : to_be_bytes w16 (length t) ++ (t ++ rest) ≡ to_be_bytes w16 (length u) ++ (u ++ rest') = same in
    let heads : to_be_bytes w16 (length t) ≡ to_be_bytes w16 (length u) = same_front (to_be_bytes w16 (length t)) (t ++ rest) (to_be_bytes w16 (length u)) (u ++ rest') refl split in
    let tails : t ++ rest ≡ u ++ rest' = same_back (to_be_bytes w16 (length t)) (t ++ rest) (to_be_bytes w16 (length u)) (u ++ rest') refl split in
    let long : length t ≡ length u = sym (from_be_bytes-to_be_bytes_2 (length t) short_t) ∙ (ap (from_be_bytes w16) heads ∙ from_be_bytes-to_be_bytes_2 (length u) short_u) in
    record { text = same_front t rest u rest' long tails; rest_is = same_back t rest u rest' long tails }

-- what is read as a text is one
pub text_bytes_read : (head text rest : List ℕ) → length head ≡ 2 → ((i : ℕ) → get_or head i 0 < 256) → length text ≡ from_be_bytes w16 head → head ++ (text ++ rest) ≡ text_bytes text ++ rest
text_bytes_read head text rest two small count = ap (λ h. h ++ (text ++ rest)) (sym (be_bytes_2 head (length text) two small count)) ∙ sym (append_assoc (to_be_bytes w16 (length text)) text rest)

-- bytes that begin with a text have its length and as many bytes
pub text_bytes_whole : (head tail text rest : List ℕ) → length head ≡ 2 → length text < 2 ^ 16 → head ++ tail ≡ text_bytes text ++ rest → from_be_bytes w16 head ≤ length tail
text_bytes_whole head tail text rest two short same =
    let split : head ++ tail ≡ to_be_bytes w16 (length text) ++ (text ++ rest) = same in
    let heads : head ≡ to_be_bytes w16 (length text) = same_front head tail (to_be_bytes w16 (length text)) (text ++ rest) two split in
    let tails : tail ≡ text ++ rest = same_back head tail (to_be_bytes w16 (length text)) (text ++ rest) two split in
    let count : from_be_bytes w16 head ≡ length text = ap (from_be_bytes w16) heads ∙ from_be_bytes-to_be_bytes_2 (length text) short in
    omega (arith, count, ap length tails, length-append text rest)

-- ---- numbers

non_negative : (v : ℤ) → pos 0 ≤ℤ v → pos (unsigned_abs v) ≡ v
non_negative (pos n) above = refl
non_negative (negsuc n) above = absurd (omega (arith, ints, above))

pub above_least_is : (v : ℤ) → FitsSigned w64 v → pos (above_least v) ≡ v +ℤ pos (2 ^ 63)
above_least_is v fits = non_negative (v +ℤ pos (2 ^ 63)) (omega (arith, ints, fits))

pub above_least_short : (v : ℤ) → FitsSigned w64 v → above_least v < 2 ^ 64
above_least_short v fits = omega (arith, ints, fits, above_least_is v fits)

above_least_injective : (u v : ℤ) → FitsSigned w64 u → FitsSigned w64 v → above_least u ≡ above_least v → u ≡ v
above_least_injective u v fits_u fits_v same = omega (arith, ints, above_least_is u fits_u, above_least_is v fits_v, same)

pub record NumberOf (bytes : List ℕ) : Type 0 where
  pub number : ℤ
  pub fits : FitsSigned w64 number
  pub spelled : to_be_bytes w64 (above_least number) ≡ bytes
  pub number_is : number ≡ pos (from_be_bytes w64 bytes) -ℤ pos (2 ^ 63)

eight_small : (bs : List ℕ) → ((i : ℕ) → get_or bs i 0 < 256) → from_be_bytes w64 bs < 2 ^ 64
eight_small bs small = omega (arith, small 0, small 1, small 2, small 3, small 4, small 5, small 6, small 7)

-- eight bytes spell a number
pub eight_bytes : (bs : List ℕ) → length bs ≡ 8 → ((i : ℕ) → get_or bs i 0 < 256) → NumberOf bs
eight_bytes bs eight small =
    let m = from_be_bytes w64 bs in
    let within : m < 2 ^ 64 = eight_small bs small in
    let there : above_least (pos m -ℤ pos (2 ^ 63)) ≡ m = ap unsigned_abs (back m) in
    record { number = pos m -ℤ pos (2 ^ 63); fits = ranged m within; spelled = be_bytes_8 bs (above_least (pos m -ℤ pos (2 ^ 63))) eight small there; number_is = refl }
  where
    back : (m : ℕ) → (pos m -ℤ pos (2 ^ 63)) +ℤ pos (2 ^ 63) ≡ pos m
    back m = omega (arith, ints)

    ranged : (m : ℕ) → m < 2 ^ 64 → FitsSigned w64 (pos m -ℤ pos (2 ^ 63))
    ranged m within = omega (arith, ints)

-- ---- values

pub record SameValue (v w : Scalar) (rest rest' : List ℕ) : Type 0 where
  pub value : v ≡ w
  pub rest_is : rest ≡ rest'

other_tag : {P : Type 0} (a b : ℕ) (x y : List ℕ) → (a ≡ b → ⊥) → a ∷ x ≡ b ∷ y → P
other_tag a b x y differ same = absurd (differ (cc))

tail_of : (a b : ℕ) (x y : List ℕ) → a ∷ x ≡ b ∷ y → x ≡ y
tail_of a b x y same = cc

head_of : (a b : ℕ) (x y : List ℕ) → a ∷ x ≡ b ∷ y → a ≡ b
head_of a b x y same = cc

flag_injective : (b c : Bool) → flag_byte b ≡ flag_byte c → b ≡ c
flag_injective true true same = refl
flag_injective false false same = refl
flag_injective true false same = absurd (omega (arith, same))
flag_injective false true same = absurd (omega (arith, same))

-- a value's bytes say what it is and where it ends
pub value_bytes_injective : (v w : Scalar) (rest rest' : List ℕ) → IsKeyValue v → IsKeyValue w → value_bytes v ++ rest ≡ value_bytes w ++ rest' → SameValue v w rest rest'
value_bytes_injective (Word t) (Word u) rest rest' fits_t fits_u same =
    let here = text_bytes_injective t u rest rest' fits_t.1 fits_u.1 (tail_of 1 1 (text_bytes t ++ rest) (text_bytes u ++ rest') same) in
    record { value = ap Word here.text; rest_is = here.rest_is }
value_bytes_injective (Whole a) (Whole b) rest rest' fits_a fits_b same =
    let inner : to_be_bytes w64 (above_least a) ++ rest ≡ to_be_bytes w64 (above_least b) ++ rest' = tail_of 2 2 (to_be_bytes w64 (above_least a) ++ rest) (to_be_bytes w64 (above_least b) ++ rest') same in
    let heads : to_be_bytes w64 (above_least a) ≡ to_be_bytes w64 (above_least b) = same_front (to_be_bytes w64 (above_least a)) rest (to_be_bytes w64 (above_least b)) rest' refl inner in
    let tails : rest ≡ rest' = same_back (to_be_bytes w64 (above_least a)) rest (to_be_bytes w64 (above_least b)) rest' refl inner in
    let numbers : above_least a ≡ above_least b = sym (from_be_bytes-to_be_bytes_8 (above_least a) (above_least_short a fits_a)) ∙ (ap (from_be_bytes w64) heads ∙ from_be_bytes-to_be_bytes_8 (above_least b) (above_least_short b fits_b)) in
    record { value = ap Whole (above_least_injective a b fits_a fits_b numbers); rest_is = tails }
value_bytes_injective (Flag b) (Flag c) rest rest' fits_b fits_c same =
    let inner = tail_of 3 3 (flag_byte b ∷ rest) (flag_byte c ∷ rest') same in
    record { value = ap Flag (flag_injective b c (head_of (flag_byte b) (flag_byte c) rest rest' inner)); rest_is = tail_of (flag_byte b) (flag_byte c) rest rest' inner }
value_bytes_injective (Word t) (Whole b) rest rest' fits_v fits_w same = other_tag 1 2 (text_bytes t ++ rest) (to_be_bytes w64 (above_least b) ++ rest') (λ e. omega (arith, e)) same
value_bytes_injective (Word t) (Flag c) rest rest' fits_v fits_w same = other_tag 1 3 (text_bytes t ++ rest) (flag_byte c ∷ rest') (λ e. omega (arith, e)) same
value_bytes_injective (Whole a) (Word u) rest rest' fits_v fits_w same = other_tag 2 1 (to_be_bytes w64 (above_least a) ++ rest) (text_bytes u ++ rest') (λ e. omega (arith, e)) same
value_bytes_injective (Whole a) (Flag c) rest rest' fits_v fits_w same = other_tag 2 3 (to_be_bytes w64 (above_least a) ++ rest) (flag_byte c ∷ rest') (λ e. omega (arith, e)) same
value_bytes_injective (Flag b) (Word u) rest rest' fits_v fits_w same = other_tag 3 1 (flag_byte b ∷ rest) (text_bytes u ++ rest') (λ e. omega (arith, e)) same
value_bytes_injective (Flag b) (Whole a) rest rest' fits_v fits_w same = other_tag 3 2 (flag_byte b ∷ rest) (to_be_bytes w64 (above_least a) ++ rest') (λ e. omega (arith, e)) same

-- ---- dimensions

pub record SameDimension (d e : Dimension) (rest rest' : List ℕ) : Type 0 where
  pub dimension : d ≡ e
  pub rest_is : rest ≡ rest'

abbrev dimension_from : List ℕ → Scalar → Dimension
dimension_from path value = record { path = path; value = value }

dimension_eq : (d e : Dimension) → d.path ≡ e.path → d.value ≡ e.value → d ≡ e
dimension_eq d e p v = ap (λ path. dimension_from path d.value) p ∙ ap (λ value. dimension_from e.path value) v

-- a dimension's bytes say what it is and where it ends
pub dimension_bytes_injective : (d e : Dimension) (rest rest' : List ℕ) → IsDimension d → IsDimension e → dimension_bytes d ++ rest ≡ dimension_bytes e ++ rest' → SameDimension d e rest rest'
dimension_bytes_injective d e rest rest' is_d is_e same =
    let split : text_bytes d.path ++ (value_bytes d.value ++ rest) ≡ text_bytes e.path ++ (value_bytes e.value ++ rest') = sym (append_assoc (text_bytes d.path) (value_bytes d.value) rest) ∙ (same ∙ append_assoc (text_bytes e.path) (value_bytes e.value) rest') in
    let paths = text_bytes_injective d.path e.path (value_bytes d.value ++ rest) (value_bytes e.value ++ rest') (omega (arith, is_d.path_short)) (omega (arith, is_e.path_short)) split in
    let values = value_bytes_injective d.value e.value rest rest' is_d.value_fits is_e.value_fits paths.rest_is in
    record { dimension = dimension_eq d e paths.text values.value; rest_is = values.rest_is }

-- dimensions whose paths ascend have a key of their own
pub key_bytes_injective : (p q : List ℕ) (ds es : List Dimension) → AreDimensionsAfter p ds → AreDimensionsAfter q es → key_bytes ds ≡ key_bytes es → ds ≡ es
key_bytes_injective p q [] [] f g same = refl
key_bytes_injective p q [] (e ∷ es) f g same = absurd (empty_key (value_bytes e.value) e.path (key_bytes es) same)
  where
    empty_key : (v t rest : List ℕ) → [] ≡ (text_bytes t ++ v) ++ rest → ⊥
    empty_key v t rest none = cc
key_bytes_injective p q (d ∷ ds) [] f g same = absurd (key_empty (value_bytes d.value) d.path (key_bytes ds) same)
  where
    key_empty : (v t rest : List ℕ) → (text_bytes t ++ v) ++ rest ≡ [] → ⊥
    key_empty v t rest none = cc
key_bytes_injective p q (d ∷ ds) (e ∷ es) f g same =
    let here = dimension_bytes_injective d e (key_bytes ds) (key_bytes es) f.1 g.1 same in
    cons_eq here.dimension (key_bytes_injective d.path e.path ds es f.2 g.2 here.rest_is)
  where
    cons_eq : {d e : Dimension} {ds es : List Dimension} → d ≡ e → ds ≡ es → d ∷ ds ≡ e ∷ es
    cons_eq a b = cc
