-- What bytes begin with: so many bytes, or a text behind its length.
use Rattle.std.specs.Prelude.{◌≡◌, ℕ, nat_lt, if◌then◌else◌, Option, Some, None, List, length, take, drop}
use Rattle.std.specs.Int.{w16, from_be_bytes}
use Rattle.time_text.specs.Shape.{◌>>=◌}

-- what a reader answers is what the bytes have
abbrev pub Reads : {X Y : Type 0} → (X → Y) → Option X → Option Y → Type 0
Reads view None there = there ≡ None
Reads view (Some x) there = there ≡ Some (view x)

-- so many bytes, and those behind them
abbrev pub cut : ℕ → List ℕ → Option (List ℕ × List ℕ)
cut count bytes = if nat_lt (length bytes) count then None else Some (take count bytes, drop count bytes)

-- two bytes of length and the text, and what follows
unfoldable pub text_at : List ℕ → Option (List ℕ × List ℕ)
text_at bytes = cut 2 bytes >>= λ head. cut (from_be_bytes w16 head.0) head.1
