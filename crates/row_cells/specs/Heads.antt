-- The dimensions that a key spells, and the head of a series: the cells of its dimensions, and nothing else.
use Rattle.std.specs.Prelude.{◌≡◌, zero, suc, length, ℕ, pos, ◌-ℤ◌, ◌^◌, Bool, true, false, nat_eq, if◌then◌else◌, Option, Some, None, List, [], ◌∷◌}
use Rattle.std.specs.Int.{w64, from_be_bytes}
use Rattle.std.specs.Str.{bytes_eq, is_utf8}
use Rattle.time_text.specs.Shape.{◌>>=◌}
use Rattle.row_cells.specs.declared.scalars.Scalar.{Scalar}
use Rattle.row_cells.specs.declared.scalars.Scalar.TheVariants.{Whole, Flag, Word}
use Rattle.row_cells.specs.declared.entries.Entry.{Entry}
use Rattle.row_cells.specs.declared.entries.EntryValue.{EntryValue}
use Rattle.row_cells.specs.declared.entries.EntryValue.TheVariants.{Whole as WholeValue, Flag as FlagValue, Word as WordValue}
use Rattle.row_cells.specs.declared.schemas.Field.{Field}
use Rattle.row_cells.specs.declared.schemas.Schema.{Schema}
use Rattle.row_cells.specs.declared.rows.Row.{Row}
use Rattle.row_cells.specs.Dimensions.{Dimension}
use Rattle.row_cells.specs.declared.rows.Cell.{Cell}
use Rattle.row_cells.specs.declared.rows.Cell.TheVariants.{Absent, One}
use Rattle.row_cells.specs.Fitting.{Fits, raw_form, dimensions_of}
use Rattle.row_cells.specs.Texts.{cut, text_at}

abbrev pub utf8_word : List ℕ × List ℕ → Option (Scalar × List ℕ)
utf8_word text = if is_utf8 text.0 then Some (Word text.0, text.1) else None

-- what the program reads as a value and as a dimension, of which it borrows the texts
abbrev pub scalar_of : EntryValue → Scalar
scalar_of (WholeValue number) = Whole number
scalar_of (FlagValue flag) = Flag flag
scalar_of (WordValue text) = Word text.now

abbrev pub dimension_seen : Entry → Dimension
dimension_seen entry = record { path = entry.path.now; value = scalar_of entry.value }

-- a text of UTF-8 as a value
unfoldable pub word_at : List ℕ → Option (Scalar × List ℕ)
word_at bytes = text_at bytes >>= utf8_word

-- eight bytes of a number, from the least of 64 bits on
unfoldable pub whole_at : List ℕ → Option (Scalar × List ℕ)
whole_at bytes = cut 8 bytes >>= λ head. Some (Whole (pos (from_be_bytes w64 head.0) -ℤ pos (2 ^ 63)), head.1)

abbrev pub flag_of : ℕ → Option Bool
flag_of byte = if nat_eq byte 0 then Some false else if nat_eq byte 1 then Some true else None

-- a byte that is 0 or 1
abbrev pub flag_at : List ℕ → Option (Scalar × List ℕ)
flag_at [] = None
flag_at (byte ∷ rest) = flag_of byte >>= λ flag. Some (Flag flag, rest)

-- the value that a tag announces: 1 a text, 2 a number, 3 a truth value
abbrev pub tagged_at : ℕ → List ℕ → Option (Scalar × List ℕ)
tagged_at tag bytes = if nat_eq tag 1 then word_at bytes else if nat_eq tag 2 then whole_at bytes else if nat_eq tag 3 then flag_at bytes else None

unfoldable pub value_at : List ℕ → Option (Scalar × List ℕ)
value_at [] = None
value_at (tag ∷ bytes) = tagged_at tag bytes

abbrev pub dimension_with : List ℕ × List ℕ → Option (Dimension × List ℕ)
dimension_with path = value_at path.1 >>= λ value. Some (record { path = path.0; value = value.0 }, value.1)

-- the dimension that bytes begin with, and what follows it
unfoldable pub dimension_at : List ℕ → Option (Dimension × List ℕ)
dimension_at bytes = text_at bytes >>= dimension_with

abbrev pub value_if : List ℕ → Dimension × List ℕ → Option (Scalar × List ℕ)
value_if path first = if bytes_eq first.0.path path then Some (first.0.value, first.1) else None

-- the value of a dimension with this path, where bytes begin with one
unfoldable pub entry_at : List ℕ → List ℕ → Option (Scalar × List ℕ)
entry_at path bytes = dimension_at bytes >>= value_if path

abbrev pub head_of : Option (Scalar × List ℕ) → Cell
head_of None = Absent
head_of (Some entry) = One entry.0

abbrev pub rest_of : List ℕ → Option (Scalar × List ℕ) → List ℕ
rest_of bytes None = bytes
rest_of bytes (Some entry) = entry.1

-- a cell for each field: the value of the dimension of its path, or none
abbrev pub heads_in : List Field → List ℕ → List Cell
heads_in [] bytes = []
heads_in (f ∷ fields) bytes = head_of (entry_at f.path bytes) ∷ heads_in fields (rest_of bytes (entry_at f.path bytes))

-- one row with the head of a series: a document at the first instant
abbrev pub head_row_of : Schema → List ℕ → Row
head_row_of schema key = record { key = key; time = pos 0; count = 1; cells = heads_in schema.fields key }

-- a row is the head of another's series: it fits as a document, and has that row's dimensions
pub record IsHeadOf (schema : Schema) (row head : Row) : Type 0 where
  pub fits : Fits (raw_form schema) head
  pub dimensions : dimensions_of schema.fields head.cells ≡ dimensions_of schema.fields row.cells

abbrev pub in_front_of : Option (Dimension × List ℕ) → (List ℕ → List Dimension) → List Dimension
in_front_of None behind = []
in_front_of (Some first) behind = first.0 ∷ behind first.1

-- at most so many dimensions that bytes begin with
abbrev pub first_dimensions : ℕ → List ℕ → List Dimension
first_dimensions zero bytes = []
first_dimensions (suc n) bytes = in_front_of (dimension_at bytes) (first_dimensions n)

-- the dimensions that the bytes of a key spell, one behind the other
unfoldable pub dimensions_in : List ℕ → List Dimension
dimensions_in bytes = first_dimensions (length bytes) bytes
