-- Texts by their shape, as lists of bytes.
use Rattle.std.specs.Prelude.{ℕ, Bool, true, false, ◌&&◌, ◌==◌, if◌then◌else◌, List, [], ◌∷◌, slice_range, Option, option_and_then}
use Rattle.std.specs.Char.{is_ascii_digit}
use Rattle.std.specs.Str.Parse.{digits_value}

-- steps that may fail, one after the other
infixl 10 ◌>>=◌
abbrev pub ◌>>=◌ : {A B : Type 0} → Option A → (A → Option B) → Option B
o >>= f = option_and_then f o

-- a # stands for a decimal digit, and any other sign for itself
abbrev pub fits : ℕ → ℕ → Bool
fits sign byte = if sign == 35 then is_ascii_digit byte else (byte == sign)

-- the text has this shape, byte by byte
abbrev pub has_shape : List ℕ → List ℕ → Bool
has_shape [] [] = true
has_shape (sign ∷ shape) (byte ∷ text) = fits sign byte && has_shape shape text
has_shape [] (byte ∷ text) = false
has_shape (sign ∷ shape) [] = false

-- the number that the digits from one place up to another spell
abbrev pub number : List ℕ → ℕ → ℕ → ℕ
number text start stop = digits_value 10 (slice_range text start stop)
