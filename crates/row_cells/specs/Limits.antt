-- How large keys and rows may be.
use Rattle.std.specs.Prelude.{ℕ}

-- bytes of a path
abbrev pub longest_path : ℕ
longest_path = 512

-- bytes of a key
abbrev pub longest_key : ℕ
longest_key = 4096

-- bytes of a keyword
abbrev pub longest_word : ℕ
longest_word = 32766

-- values of a label
abbrev pub longest_list : ℕ
longest_list = 67108864

-- documents of a row, and of an index
abbrev pub most_documents : ℕ
most_documents = 16777216
