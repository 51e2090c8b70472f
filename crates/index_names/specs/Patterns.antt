-- Patterns for the names of streams.
use Rattle.std.specs.Prelude.{ℕ, ◌-◌, Bool, ◌&&◌, ◌||◌, nat_le, List, length, take, if◌then◌else◌, bytes_eq}
use Rattle.std.specs.Io.BufRead.{ends_with_byte}
use Rattle.index_names.specs.Names.{is_stream_name, stream_limit}

-- what stands before the last byte
abbrev pub front_of : List ℕ → List ℕ
front_of pattern = take (length pattern - 1) pattern

-- a `*` with nothing before it, or with the name of a stream that it could follow within the limit
abbrev pub is_front_pattern : List ℕ → Bool
is_front_pattern p = ends_with_byte 42 p && (nat_le (length p) 1 || (nat_le (length p) stream_limit && is_stream_name (front_of p)))

-- the name of a stream, or the front of names and a `*`
unfoldable pub is_pattern : List ℕ → Bool
is_pattern p = is_stream_name p || is_front_pattern p

-- whether a name begins with these bytes
abbrev pub begins_with : List ℕ → List ℕ → Bool
begins_with front name = bytes_eq front (take (length front) name)

-- a pattern takes its own name, and one that ends in `*` each name that begins with what stands before that
unfoldable pub pattern_takes : List ℕ → List ℕ → Bool
pattern_takes pattern name = if ends_with_byte 42 pattern then begins_with (front_of pattern) name else bytes_eq pattern name
