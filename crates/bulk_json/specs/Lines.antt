-- Lines of a bulk body.
use Rattle.std.specs.Prelude.{ℕ, ◌-◌, ◌==◌, Bool, ◌||◌, List, length, take, map, if◌then◌else◌}
use Rattle.std.specs.Io.BufRead.{ends_with_byte, strip_last}
use Rattle.std.specs.List.{list_all}
use Rattle.edge_face.specs.Lines.{pieces_of}

-- JSON's white space: space, tab, newline, carriage return
abbrev pub is_space : ℕ → Bool
is_space b = b == 32 || b == 9 || b == 10 || b == 13

abbrev pub is_blank : List ℕ → Bool
is_blank bytes = list_all is_space bytes

-- the line of a piece: without its newline, and without a carriage return before that
unfoldable pub line_in : List ℕ → List ℕ
line_in piece = if ends_with_byte 10 piece then strip_last 13 (take (length piece - 1) piece) else piece

-- the lines of a body, of which the last may lack its newline
abbrev pub lines_of : List ℕ → List (List ℕ)
lines_of bytes = map line_in (pieces_of bytes)
