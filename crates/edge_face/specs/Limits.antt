-- How long inputs may be, and how far time goes.
use Rattle.std.specs.Prelude.{ℕ, ℤ, pos}

-- how many bytes a line may have before its newline or the end
abbrev pub line_limit : ℕ
line_limit = 1048576

-- how many bytes an input may have
abbrev pub input_limit : ℕ
input_limit = 68719476736

-- how many bytes the body of a request may have
abbrev pub body_limit : ℕ
body_limit = 67108864

-- the last millisecond of the year 9999, since 1970 began
abbrev pub last_instant : ℤ
last_instant = pos 253402300799999
