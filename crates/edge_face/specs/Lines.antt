-- Pieces and lines of bytes. A piece runs up to and with its newline, or to the end.
use Rattle.std.specs.Prelude.{◌≡◌, ◌≢◌, ℕ, ◌<◌, ◌≤◌, ◌==◌, ◌⊎◌, Bool, true, List, [], ◌∷◌, ◌++◌, length, take, drop, Option, MatchOption, IfSome, slice_index, if◌then◌else◌}
use Rattle.std.specs.Io.BufRead.{take_through, drop_through, strip_last, ends_with_byte}
use Rattle.edge_face.specs.Limits.{line_limit}

-- the first piece of the bytes, and what follows it
abbrev pub piece_of : List ℕ → List ℕ
piece_of bytes = take_through 10 bytes

abbrev pub after_piece : List ℕ → List ℕ
after_piece bytes = drop_through 10 bytes

-- the line of a piece: without its newline, and without one carriage return before that or before the end
unfoldable pub line_of : List ℕ → List ℕ
line_of piece = strip_last 13 (strip_last 10 piece)

-- the piece put before the others, where b is its first byte
abbrev pub with_first : ℕ → List (List ℕ) → List (List ℕ)
with_first b [] = (b ∷ []) ∷ []
with_first b (piece ∷ pieces) = (b ∷ piece) ∷ pieces

-- all pieces of the bytes, in order
abbrev pub pieces_of : List ℕ → List (List ℕ)
pieces_of [] = []
pieces_of (b ∷ bytes) = if b == 10 then (b ∷ []) ∷ pieces_of bytes else with_first b (pieces_of bytes)

-- none of the first n bytes is a newline
abbrev pub NoNewlineBelow : ℕ → List ℕ → Type 0
NoNewlineBelow n bytes = (k : ℕ) → k < n → slice_index bytes k ≢ 10

-- no byte is a newline
abbrev pub HasNoNewline : List ℕ → Type 0
HasNoNewline bytes = NoNewlineBelow (length bytes) bytes

-- the first newline stands at this place
pub record IsNewlineAt (bytes : List ℕ) (at : ℕ) : Type 0 where
  pub inside : at < length bytes
  pub newline : slice_index bytes at ≡ 10
  pub before : NoNewlineBelow at bytes

-- the place of the first newline, or none
abbrev pub IsFirstNewline : List ℕ → Option ℕ → Type 0
IsFirstNewline bytes found = MatchOption found (HasNoNewline bytes) (λ at. IsNewlineAt bytes at)

-- the piece has more bytes before its newline or the end than a line may have
abbrev pub IsLongPiece : List ℕ → Type 0
IsLongPiece piece = line_limit < length (strip_last 10 piece)

-- a newline ends the first n of the bytes that wait, so they are a piece whatever follows them
pub record EndsInNewline (n : ℕ) (waiting : List ℕ) : Type 0 where
  pub some : 0 < n
  pub ends : ends_with_byte 10 (take n waiting) ≡ true
  pub piece : (more : List ℕ) → piece_of (take n waiting ++ more) ≡ take n waiting
  pub after : (more : List ℕ) → after_piece (take n waiting ++ more) ≡ more

-- the source has ended, and these n bytes are all that wait and have no newline
pub record EndsInput (n : ℕ) (waiting : List ℕ) (ended : Bool) : Type 0 where
  pub source : ended ≡ true
  pub all : n ≡ length waiting
  pub none : HasNoNewline waiting

-- the first n of the bytes that wait are the first piece of these and what is left; 0 where nothing is left
pub record ShowsPiece (n : ℕ) (waiting : List ℕ) (ended : Bool) (left : Option (List ℕ)) : Type 0 where
  pub inside : n ≤ length waiting
  pub piece : IfSome left (λ rest. piece_of (waiting ++ rest) ≡ take n waiting)
  pub after : IfSome left (λ rest. after_piece (waiting ++ rest) ≡ drop n waiting ++ rest)
  pub none : n ≡ 0 → (waiting ≡ []) × IfSome left (λ rest. rest ≡ [])
  pub how : EndsInNewline n waiting ⊎ EndsInput n waiting ended
