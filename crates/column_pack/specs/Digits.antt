use Rattle.std.specs.Prelude.{ℕ, ◌+◌, ◌-◌, ◌*◌, ◌/◌, ◌%◌, ◌^◌, ◌<◌, ◌≤◌, List, [], ◌∷◌, length, max}
use Rattle.std.proofs.Common.{zero, suc}

-- the number that digits of a base stand for, the lowest digit first
abbrev pub number : ℕ → List ℕ → ℕ
number base [] = 0
number base (d ∷ ds) = d + base * number base ds

-- so many digits of a number, the lowest first
abbrev pub digits : ℕ → ℕ → ℕ → List ℕ
digits base zero n = []
digits base (suc count) n = (n % base) ∷ digits base count (n / base)

-- the bytes that so many bits fill
abbrev pub bytes_for : ℕ → ℕ
bytes_for bits = (bits + 7) / 8

-- Numbers of so many bits each, one behind the other: bit k of the stream is bit k mod 8 of byte k div 8,
-- low bits first, so the numbers are the digits, to the base 2 ^ width, of what the bytes are to the base 256.
-- Bits that no number fills are 0.
unfoldable pub stream : ℕ → List ℕ → List ℕ
stream width rs = digits 256 (bytes_for (length rs * width)) (number (2 ^ width) rs)

-- the greatest of some numbers, or 0
abbrev pub greatest_of : List ℕ → ℕ
greatest_of [] = 0
greatest_of (x ∷ xs) = max x (greatest_of xs)

-- how many binary digits a number has, none for 0
pub record IsWidth (width n : ℕ) : Type 0 where
  pub enough : n < 2 ^ width
  pub least : 0 < width → 2 ^ (width - 1) ≤ n
