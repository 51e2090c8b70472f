-- A script: its bytes are lines, and its lines are moments and requests with their bodies.
use Rattle.std.specs.Prelude.{ℕ, List, [], ◌∷◌, ◌++◌, Bool, true, false, ◌==◌, ◌||◌, ◌&&◌, map, drop, if◌then◌else◌}
use Rattle.std.specs.List.{filter}
use Rattle.std.specs.Io.BufRead.{ends_with_byte}
use Rattle.edge_face.specs.Lines.{pieces_of, line_of}

-- an event: the text of a moment line behind its `@ `, or a request line and its body
pub data Event : Type 0 where
  Moment : List ℕ → Event
  Request : List ℕ → List ℕ → Event

-- the lines of the bytes, in order, and of these the ones that end in a newline
abbrev pub lines_of : List ℕ → List (List ℕ)
lines_of bytes = map line_of (pieces_of bytes)

abbrev pub whole_lines : List ℕ → List (List ℕ)
whole_lines bytes = map line_of (filter (ends_with_byte 10) (pieces_of bytes))

abbrev pub is_empty : List ℕ → Bool
is_empty [] = true
is_empty (b ∷ bs) = false

-- between requests an empty line and one that begins with `#` say nothing
abbrev pub is_skipped : List ℕ → Bool
is_skipped [] = true
is_skipped (b ∷ bs) = b == 35

-- a line that begins with `@ ` says a moment
abbrev pub is_moment : List ℕ → Bool
is_moment [] = false
is_moment (a ∷ []) = false
is_moment (a ∷ b ∷ text) = (a == 64) && (b == 32)

-- where a script stands between two lines: between events, or behind a request line and so much of its body
pub data Place : Type 0 where
  between : Place
  within : List ℕ → List ℕ → Place

-- the event that a line closes
abbrev pub closes : Place → List ℕ → List Event
closes between line = if is_moment line then Moment (drop 2 line) ∷ [] else []
closes (within request body) line = if is_empty line then Request request body ∷ [] else []

-- where it leads
abbrev pub next_place : Place → List ℕ → Place
next_place between line = if is_skipped line || is_moment line then between else within line []
next_place (within request body) line = if is_empty line then between else within request (body ++ (line ++ 10 ∷ []))

-- the event that the end of the input closes
abbrev pub at_end : Place → List Event
at_end between = []
at_end (within request body) = Request request body ∷ []

-- the events that lines close, and those of lines that are all to the end
abbrev pub closed_from : Place → List (List ℕ) → List Event
closed_from place [] = []
closed_from place (line ∷ lines) = closes place line ++ closed_from (next_place place line) lines

abbrev pub events_from : Place → List (List ℕ) → List Event
events_from place [] = at_end place
events_from place (line ∷ lines) = closes place line ++ events_from (next_place place line) lines

-- the events that are closed in bytes that may go on, and the events of a script
abbrev pub closed_of : List ℕ → List Event
closed_of bytes = closed_from between (whole_lines bytes)

abbrev pub events_of : List ℕ → List Event
events_of bytes = events_from between (lines_of bytes)
