-- The id of a document.
use Rattle.std.specs.Prelude.{◌≡◌, ◌<◌, ℕ, ℤ, List, [], ◌∷◌, ◌++◌, unsigned_abs}
use Rattle.std.specs.Int.{w64, to_be_bytes}
use Rattle.base64.specs.GeneralPurpose.{encode_of}
use Rattle.base64.specs.Engines.{url_safe_no_pad}

-- base64 with the alphabet for URLs and without padding, as in RFC 4648
unfoldable pub base64url : List ℕ → List ℕ
base64url bytes = encode_of url_safe_no_pad bytes

-- the key, and the time in eight bytes
abbrev pub id_bytes : List ℕ → ℤ → List ℕ
id_bytes key time = key ++ to_be_bytes w64 (unsigned_abs time)

-- the id of the document of a series and an instant
abbrev pub id_of : List ℕ → ℤ → List ℕ
id_of key time = base64url (id_bytes key time)

-- each number is one of a byte
abbrev pub AreBytes : List ℕ → Type 0
AreBytes [] = Unit {0}
AreBytes (b ∷ bs) = (b < 256) × AreBytes bs

-- one series and one instant
pub record SameDocument (k l : List ℕ) (t u : ℤ) : Type 0 where
  pub key : k ≡ l
  pub time : t ≡ u
