-- The tree of a line, at bytes that are UTF-8 and at others.
use Rattle.std.proofs.Common.{◌≡◌, ℕ, List, true, false, cond, Bool, None, refl, ap}
use Rattle.std.specs.Str.{IsUtf8, is_utf8}
use Rattle.std.proofs.lemmas.Str.{is_utf8-from_IsUtf8, IsUtf8-from_is_utf8}
use Rattle.serde_json.specs.Read.{read}
use Rattle.json_walk.specs.Tree.{tree_of}

pub tree_at_utf8 : (bytes : List ℕ) → IsUtf8 bytes → tree_of bytes ≡ read bytes
unfolding tree_of
tree_at_utf8 bytes text = ap (λ b. cond b (read bytes) None) (is_utf8-from_IsUtf8 bytes text)

-- bytes are no tree where none is read of them as a text
pub tree_at_none : (bytes : List ℕ) → (IsUtf8 bytes → read bytes ≡ None) → tree_of bytes ≡ None
unfolding tree_of
tree_at_none bytes none = go (is_utf8 bytes) refl where
  go : (v : Bool) → is_utf8 bytes ≡ v → cond v (read bytes) None ≡ None
  go true e = none (IsUtf8-from_is_utf8 bytes e)
  go false e = refl
