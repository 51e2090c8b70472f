-- The moment that a text says, by whether the text is UTF-8.
use Rattle.std.proofs.Common.{◌≡◌, ℕ, Bool, true, false, cond, List, None, ap, refl}
use Rattle.std.specs.Str.{IsUtf8, is_utf8}
use Rattle.std.proofs.lemmas.Str.{is_utf8-from_IsUtf8, IsUtf8-from_is_utf8}
use Rattle.time_text.specs.Instant.{instant_of}
use Rattle.tsds_cli.specs.Documents.{moment_in}

pub said : (text : List ℕ) → IsUtf8 text → moment_in text ≡ instant_of text
unfolding moment_in
said text utf8 = ap (λ b. cond b (instant_of text) None) (is_utf8-from_IsUtf8 text utf8)

pub unsaid : (text : List ℕ) → (IsUtf8 text → ⊥) → moment_in text ≡ None
unfolding moment_in
unsaid text none = go (is_utf8 text) (λ e. none (IsUtf8-from_is_utf8 text e))
  where
    go : (b : Bool) → (b ≡ true → ⊥) → cond b (instant_of text) None ≡ None
    go true never = absurd (never refl)
    go false never = refl
