-- An id tells its key and instant.
use Rattle.std.specs.Prelude.{◌≡◌, ℕ, ℤ, pos, negsuc, ◌<◌, ◌^◌, List, length, unsigned_abs}
use Rattle.std.specs.Int.{w64, to_be_bytes, from_be_bytes}
use Rattle.std.specs.declared.result.Result.{Result}
use Rattle.std.specs.declared.result.Result.TheVariants.{Ok, Err}
use Rattle.std.proofs.Common.{refl, ap, ◌∙◌, sym, arith, length-append}
use Rattle.std.proofs.lemmas.Int.{ints}
use Rattle.std.proofs.lemmas.Nat.{from_be_bytes-to_be_bytes_8}
use Rattle.base64.specs.GeneralPurpose.{decode_of}
use Rattle.base64.specs.Engines.{url_safe_no_pad}
use Rattle.base64.proofs.EngineFacts.{decode_of-encode_of}
use Rattle.row_cells.specs.Dimensions.{IsKey}
use Rattle.time_text.specs.Instant.{IsInstant}
use Rattle.row_cells.specs.KeyLaws.{same_front, same_back}
use Rattle.series_id.specs.ByteLaws.{bytes_at, bytes_joined, eight_bytes, key_is_bytes}
use Rattle.series_id.specs.Ids.{AreBytes, SameDocument, base64url, id_bytes, id_of}

-- what is read is one list of bytes, and no error
pub same_bytes : {E : Type 0} (r : Result (List ℕ) E) (a b : List ℕ) → r ≡ Ok a → r ≡ Ok b → a ≡ b
same_bytes r a b is_a is_b = cc

pub no_error : {E : Type 0} (r : Result (List ℕ) E) (e : E) (b : List ℕ) → r ≡ Err e → r ≡ Ok b → ⊥
no_error r e b is_e is_b = cc

pub base64url_injective : (a b : List ℕ) → AreBytes a → AreBytes b → base64url a ≡ base64url b → a ≡ b
unfolding base64url
base64url_injective a b is_a is_b same =
    let back_a = decode_of-encode_of url_safe_no_pad a refl (bytes_at a is_a) in
    let back_b = decode_of-encode_of url_safe_no_pad b refl (bytes_at b is_b) in
    same_bytes (decode_of url_safe_no_pad (base64url b)) a b (ap (decode_of url_safe_no_pad) (sym same) ∙ back_a) back_b

natural : (t : ℤ) → IsInstant t → pos (unsigned_abs t) ≡ t
natural (pos n) is = refl
natural (negsuc n) is = absurd (omega (arith, ints, is.0))

instant_short : (t : ℤ) → IsInstant t → unsigned_abs t < 2 ^ 64
instant_short t is = omega (arith, ints, natural t is, is.1)

pub id_bytes_injective : (k l : List ℕ) (t u : ℤ) → IsInstant t → IsInstant u → id_bytes k t ≡ id_bytes l u → SameDocument k l t u
id_bytes_injective k l t u is_t is_u same =
    let long : length k ≡ length l = omega (arith, ap length same, length-append k (to_be_bytes w64 (unsigned_abs t)), length-append l (to_be_bytes w64 (unsigned_abs u))) in
    let tails : to_be_bytes w64 (unsigned_abs t) ≡ to_be_bytes w64 (unsigned_abs u) = same_back k (to_be_bytes w64 (unsigned_abs t)) l (to_be_bytes w64 (unsigned_abs u)) long same in
    let times : unsigned_abs t ≡ unsigned_abs u = sym (from_be_bytes-to_be_bytes_8 (unsigned_abs t) (instant_short t is_t)) ∙ (ap (from_be_bytes w64) tails ∙ from_be_bytes-to_be_bytes_8 (unsigned_abs u) (instant_short u is_u)) in
    record {
      key = same_front k (to_be_bytes w64 (unsigned_abs t)) l (to_be_bytes w64 (unsigned_abs u)) long same;
      time = sym (natural t is_t) ∙ (ap pos times ∙ natural u is_u);
    }

pub id_is_bytes : (key : List ℕ) (time : ℤ) → IsKey key → AreBytes (id_bytes key time)
id_is_bytes key time is = bytes_joined key (to_be_bytes w64 (unsigned_abs time)) (key_is_bytes key is) (eight_bytes (unsigned_abs time))

-- two documents with equal ids are of one series and one instant
pub id_injective : (k l : List ℕ) (t u : ℤ) → IsKey k → IsKey l → IsInstant t → IsInstant u → id_of k t ≡ id_of l u → SameDocument k l t u
id_injective k l t u is_k is_l is_t is_u same =
    id_bytes_injective k l t u is_t is_u (base64url_injective (id_bytes k t) (id_bytes l u) (id_is_bytes k t is_k) (id_is_bytes l u is_l) same)
