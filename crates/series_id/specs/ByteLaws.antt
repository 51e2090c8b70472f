-- The bytes of a key are bytes.
use Rattle.std.specs.Prelude.{◌≡◌, ℕ, zero, suc, ◌<◌, ◌/◌, ◌%◌, ◌+◌, List, [], ◌∷◌, ◌++◌, length, Bool, true, false, cond, ◌&&◌, IsUtf8}
use Rattle.std.specs.Int.{w16, w64, to_be_bytes}
use Rattle.std.proofs.Common.{refl, arith, get_or, subst, inl, inr}
use lib.Utf8.{encode, encodes, scalar, scalars, scalar_cases}
use lib.Dec.{ltb}
use borrow.Author.Tests.{ltb-true}
use Rattle.row_cells.specs.declared.scalars.Scalar.{Scalar}
use Rattle.row_cells.specs.declared.scalars.Scalar.TheVariants.{Whole, Flag, Word}
use Rattle.row_cells.specs.Dimensions.{Dimension, text_bytes, above_least, flag_byte, value_bytes, dimension_bytes, key_bytes, IsKeyValue, IsKey, AreDimensionsAfter}
use Rattle.series_id.specs.Ids.{AreBytes}

pub bytes_joined : (a b : List ℕ) → AreBytes a → AreBytes b → AreBytes (a ++ b)
bytes_joined [] b p q = q
bytes_joined (x ∷ a) b p q = (p.0, bytes_joined a b p.1 q)

pub bytes_at : (bs : List ℕ) → AreBytes bs → (i : ℕ) → get_or bs i 0 < 256
bytes_at [] p i = omega arith
bytes_at (b ∷ bs) p zero = p.0
bytes_at (b ∷ bs) p (suc i) = bytes_at bs p.1 i

encode_bytes : (c : ℕ) → c < 1114112 → AreBytes (encode c)
unfolding encode
encode_bytes c small = go (ltb c 128) refl (ltb c 2048) refl (ltb c 65536) refl
  where
    go : (x : Bool) → ltb c 128 ≡ x → (y : Bool) → ltb c 2048 ≡ y → (z : Bool) → ltb c 65536 ≡ z → AreBytes (cond x (c ∷ []) (cond y ((192 + c / 64) ∷ (128 + c % 64) ∷ []) (cond z ((224 + c / 4096) ∷ (128 + c / 64 % 64) ∷ (128 + c % 64) ∷ []) ((240 + c / 262144) ∷ (128 + c / 4096 % 64) ∷ (128 + c / 64 % 64) ∷ (128 + c % 64) ∷ []))))
    go true a y b z d = (omega (arith, ltb-true c 128 a), tt)
    go false a true b z d = (omega (arith, ltb-true c 2048 b), (omega arith, tt))
    go false a false b true d = (omega (arith, ltb-true c 65536 d), (omega arith, (omega arith, tt)))
    go false a false b false d = (omega (arith, small), (omega arith, (omega arith, (omega arith, tt))))

both_true : (x y : Bool) → x && y ≡ true → (x ≡ true) × (y ≡ true)
both_true true true e = (refl, refl)
both_true true false e = cc
both_true false y e = cc

scalar_small : (c : ℕ) → scalar c ≡ true → c < 1114112
scalar_small c is = elim (scalar_cases c is) [ inl low ↦ omega (arith, low) | inr high ↦ omega (arith, high) ]

encodes_bytes : (cs : List ℕ) → scalars cs ≡ true → AreBytes (encodes cs)
encodes_bytes [] is = tt
encodes_bytes (c ∷ cs) is =
    let parts = both_true (scalar c) (scalars cs) is in
    bytes_joined (encode c) (encodes cs) (encode_bytes c (scalar_small c parts.0)) (encodes_bytes cs parts.1)

-- a text is made of bytes
pub utf8_bytes : (t : List ℕ) → IsUtf8 t → AreBytes t
utf8_bytes t is = subst AreBytes is.1.1 (encodes_bytes is.0 is.1.0)

two_bytes : (n : ℕ) → AreBytes (to_be_bytes w16 n)
two_bytes n = (omega arith, (omega arith, tt))

-- eight bytes of a number are bytes
pub eight_bytes : (n : ℕ) → AreBytes (to_be_bytes w64 n)
eight_bytes n = (omega arith, (omega arith, (omega arith, (omega arith, (omega arith, (omega arith, (omega arith, (omega arith, tt))))))))

counted_bytes : (t : List ℕ) → IsUtf8 t → AreBytes (text_bytes t)
counted_bytes t is = bytes_joined (to_be_bytes w16 (length t)) t (two_bytes (length t)) (utf8_bytes t is)

flag_small : (b : Bool) → flag_byte b < 256
flag_small true = omega arith
flag_small false = omega arith

value_is_bytes : (v : Scalar) → IsKeyValue v → AreBytes (value_bytes v)
value_is_bytes (Word t) fits = (omega arith, counted_bytes t fits.0)
value_is_bytes (Whole v) fits = (omega arith, eight_bytes (above_least v))
value_is_bytes (Flag b) fits = (omega arith, (flag_small b, tt))

dimensions_are_bytes : (below : List ℕ) (ds : List Dimension) → AreDimensionsAfter below ds → AreBytes (key_bytes ds)
dimensions_are_bytes below [] are = tt
dimensions_are_bytes below (d ∷ ds) are =
    bytes_joined (dimension_bytes d) (key_bytes ds)
    (bytes_joined (text_bytes d.path) (value_bytes d.value) (counted_bytes d.path are.1.path_text) (value_is_bytes d.value are.1.value_fits))
    (dimensions_are_bytes d.path ds are.2)

-- a key is made of bytes
pub key_is_bytes : (key : List ℕ) → IsKey key → AreBytes key
key_is_bytes key is = subst AreBytes is.spells.spelled (dimensions_are_bytes [] is.spells.dimensions is.spells.ascending)
