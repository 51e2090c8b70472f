-- A reader of lines: what it holds, and what its answers say of what it and the source have left together.
use Rattle.std.specs.Prelude.{◌≡◌, ℕ, ◌+◌, ◌<◌, ◌≤◌, ◌⊎◌, List, [], ◌++◌, length, take, Option, None, Some, IfSome, Bool, true, false}
use Rattle.std.specs.Io.BufRead.{strip_last}
use Rattle.edge_face.specs.Contents.{preceded, Rose}
use Rattle.edge_face.specs.Limits.{line_limit, input_limit}
use Rattle.edge_face.specs.Lines.{piece_of, after_piece, line_of, HasNoNewline, ShowsPiece, EndsInNewline, EndsInput}
use Rattle.edge_face.specs.Waiting.{Grew}
use Rattle.edge_face.specs.declared.reader.LineError.{LineError}
use Rattle.edge_face.specs.declared.reader.LineError.TheVariants.{Read, TooLong, NoMemory}

-- bytes that were taken and not yet answered in a line, how many bytes were, the refusal that every later call repeats, and
-- whether the source has ended, so that it is asked no more
pub record Reading : Type 0 where
  pub pending : List ℕ
  pub answered : ℕ
  pub refused : Option LineError
  pub ended : Bool

-- what the reader and the source have left together
abbrev pub left_of : Reading → Option (List ℕ) → Option (List ℕ)
left_of reader left = preceded reader.pending left

-- the first n bytes that wait are the next line with its end, and no limit is passed; 0 where no line is left
pub record ShowsLine (n : ℕ) (reader : Reading) (left : Option (List ℕ)) : Type 0 where
  pub shown : ShowsPiece n reader.pending reader.ended left
  pub short : length (strip_last 10 (take n reader.pending)) ≤ line_limit
  pub within : reader.answered + n ≤ input_limit
  pub fine : reader.refused ≡ None

-- the next line passes its limit, or ends past the limit of the input; the first is looked at first
abbrev pub IsTooLong : ℕ → List ℕ → ℕ → Type 0
IsTooLong answered all bytes =
    ((line_limit < length (strip_last 10 (piece_of all))) × (bytes ≡ line_limit + 1))
    ⊎ ((length (strip_last 10 (piece_of all)) ≤ line_limit) × (input_limit < answered + length (piece_of all)) × (bytes ≡ input_limit + 1))

-- the same of the bytes that wait: they are one byte more than a line may have, without a newline; or their first piece ends past
-- the limit of the input
pub record PassesInput (answered : ℕ) (reader : Reading) (left : Option (List ℕ)) (bytes : ℕ) : Type 0 where
  pub piece : ℕ
  pub shown : ShowsPiece piece reader.pending reader.ended left
  pub short : length (strip_last 10 (take piece reader.pending)) ≤ line_limit
  pub past : input_limit < answered + piece
  pub bytes_is : bytes ≡ input_limit + 1

abbrev pub WaitTooLong : Reading → Option (List ℕ) → ℕ → Type 0
WaitTooLong reader left bytes =
    (HasNoNewline reader.pending × (length reader.pending ≡ line_limit + 1) × (bytes ≡ line_limit + 1))
    ⊎ PassesInput reader.answered reader left bytes

-- why a reader that had refused nothing refuses a line: reader and left are those after the call, and so is the second count
abbrev pub CauseOf : LineError → Reading → Option (List ℕ) → ℕ → ℕ → Type 0
CauseOf Read reader left before now = HasNoNewline reader.pending × (reader.ended ≡ false) × Rose before now × (length reader.pending ≤ line_limit)
CauseOf (TooLong bytes) reader left before now = IfSome (left_of reader left) (λ all. IsTooLong reader.answered all bytes) × WaitTooLong reader left bytes
CauseOf NoMemory reader left before now = Unit {0}

-- a line was answered: its piece is the first of all that was left, which goes on behind it. What holds where the source tells
-- nothing: the bytes that waited and those that were taken are the piece and the bytes that wait now, and a newline or the end of the
-- source ended the piece; once it has ended none are taken
pub record TakesLine (line : List ℕ) (before after : Reading) (old new : Option (List ℕ)) : Type 0 where
  pub piece : List ℕ
  pub line_is : line ≡ line_of piece
  pub moved : left_of before old ≡ preceded piece (left_of after new)
  pub first : IfSome (left_of before old) (λ all. piece ≡ piece_of all)
  pub rest : IfSome (left_of before old) (λ all. left_of after new ≡ Some (after_piece all))
  pub grew : Grew before.pending (piece ++ after.pending) old new
  pub how : EndsInNewline (length piece) (piece ++ after.pending) ⊎ EndsInput (length piece) (piece ++ after.pending) after.ended
  pub stays : before.ended ≡ true → before.pending ≡ piece ++ after.pending
  pub some : 0 < length piece
  pub short : length (strip_last 10 piece) ≤ line_limit
  pub counted : after.answered ≡ before.answered + length piece
  pub within : after.answered ≤ input_limit
  pub fine : after.refused ≡ None

-- no line is left: no byte waited, and none waits
pub record HasEnded (before after : Reading) (old new : Option (List ℕ)) : Type 0 where
  pub none : IfSome (left_of before old) (λ all. all ≡ [])
  pub moved : left_of after new ≡ left_of before old
  pub counted : after.answered ≡ before.answered
  pub fine : after.refused ≡ None
  pub ended : after.ended ≡ true
  pub waited : before.pending ≡ []
  pub nothing : after.pending ≡ []
