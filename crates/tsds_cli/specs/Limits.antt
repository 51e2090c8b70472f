-- The lengths that a script may have.
use Rattle.std.specs.Prelude.{ℕ, ◌+◌, ◌≤◌, List, [], ◌∷◌, ◌++◌, length, Bool, false, ◌||◌, nat_lt, if◌then◌else◌}
use Rattle.std.specs.Io.BufRead.{strip_last, ends_with_byte}
use Rattle.edge_face.specs.Limits.{line_limit, input_limit, body_limit}
use Rattle.edge_face.specs.Lines.{pieces_of, line_of}
use Rattle.tsds_cli.specs.Script.{Event, Moment, Request}
use Rattle.tsds_cli.specs.Script.{Place, between, within, closes, next_place, at_end}

-- a line with more bytes than it may have, before its newline or the end
unfoldable pub is_long_piece : List ℕ → Bool
is_long_piece piece = nat_lt line_limit (length (strip_last 10 piece))

abbrev pub is_long_place : Place → Bool
is_long_place between = false
is_long_place (within request body) = nat_lt body_limit (length body)

-- a piece, behind so many bytes, that passes a length: of a line, of the script, or of the body that it belongs to
abbrev pub is_over : Place → ℕ → List ℕ → Bool
is_over place before piece = is_long_piece piece || (nat_lt input_limit (before + length piece) || is_long_place (next_place place (line_of piece)))

-- some piece passes a length
abbrev pub long_from : Place → ℕ → List (List ℕ) → Bool
long_from place before [] = false
long_from place before (piece ∷ pieces) = is_over place before piece || long_from (next_place place (line_of piece)) (before + length piece) pieces

-- the events before the first piece that does
abbrev pub fine_from : Place → ℕ → List (List ℕ) → List Event
fine_from place before [] = at_end place
fine_from place before (piece ∷ pieces) =
    if is_over place before piece then [] else closes place (line_of piece) ++ fine_from (next_place place (line_of piece)) (before + length piece) pieces

-- a script passes one of its lengths, and the events before it does
abbrev pub is_too_long : List ℕ → Bool
is_too_long bytes = long_from between 0 (pieces_of bytes)

abbrev pub fine_of : List ℕ → List Event
fine_of bytes = fine_from between 0 (pieces_of bytes)

-- the same of bytes that may go on: of what waits for its newline only the length of the line is looked at
abbrev pub is_over_so_far : Place → ℕ → List ℕ → Bool
is_over_so_far place before piece = if ends_with_byte 10 piece then is_over place before piece else is_long_piece piece

abbrev pub passed_from : Place → ℕ → List (List ℕ) → Bool
passed_from place before [] = false
passed_from place before (piece ∷ pieces) = is_over_so_far place before piece || passed_from (next_place place (line_of piece)) (before + length piece) pieces

-- bytes that may go on have passed a length
abbrev pub has_passed : List ℕ → Bool
has_passed bytes = passed_from between 0 (pieces_of bytes)

-- an event whose body is no longer than a body may be
abbrev pub IsShort : Event → Type 0
IsShort (Moment text) = Unit {0}
IsShort (Request line body) = length body ≤ body_limit
