-- The names of streams, templates, targets and indices, told by their bytes.
use Rattle.std.specs.Prelude.{ℕ, ◌==◌, Bool, false, ◌||◌, ◌&&◌, nat_le, nat_lt, List, [], ◌∷◌, length, take, drop, codes, bytes_eq}
use Rattle.std.specs.List.{list_all}
use Rattle.std.specs.Char.{is_ascii_lowercase, is_ascii_digit}

-- `a` to `z`, `0` to `9`
abbrev pub is_letter_or_digit : ℕ → Bool
is_letter_or_digit b = is_ascii_lowercase b || is_ascii_digit b

-- one of these, `-`, `_` or `.`
abbrev pub is_name_byte : ℕ → Bool
is_name_byte b = is_letter_or_digit b || b == 45 || b == 95 || b == 46

unfoldable pub are_name_bytes : List ℕ → Bool
are_name_bytes bytes = list_all is_name_byte bytes

-- bytes of names, of which the first is a letter or a digit
abbrev pub is_plain_name : List ℕ → Bool
is_plain_name [] = false
is_plain_name (first ∷ rest) = is_letter_or_digit first && are_name_bytes rest

-- `.ds-` and at least one byte of names behind it
abbrev pub is_hidden_name : List ℕ → Bool
is_hidden_name name = nat_lt 4 (length name) && (bytes_eq (take 4 name) (codes ".ds-") && are_name_bytes (drop 4 name))

-- the most bytes of the name of a stream or a template, and of an index or a target
abbrev pub stream_limit : ℕ
stream_limit = 100

abbrev pub index_limit : ℕ
index_limit = 160

-- the name of a stream or of a template
unfoldable pub is_stream_name : List ℕ → Bool
is_stream_name name = nat_le (length name) stream_limit && is_plain_name name

-- the name of the target of a downsampling
unfoldable pub is_target_name : List ℕ → Bool
is_target_name name = nat_le (length name) index_limit && is_plain_name name

-- the name of an index
unfoldable pub is_index_name : List ℕ → Bool
is_index_name name = nat_le (length name) index_limit && (is_plain_name name || is_hidden_name name)
