-- The dimensions of a series, and the bytes of its key.
use Rattle.std.specs.Prelude.{◌≡◌, ℕ, ℤ, pos, ◌+ℤ◌, ◌<◌, ◌≤◌, ◌^◌, List, [], ◌∷◌, ◌++◌, length, Bool, true, false, IsUtf8, FitsSigned, unsigned_abs}
use Rattle.std.specs.Int.{w16, w64, to_be_bytes}
use Rattle.std.specs.Cmp.Lexicographic.{slice_cmp}
use Rattle.std.specs.Ordering.{nat_cmp}
use Rattle.std.specs.declared.cmp.Ordering.TheVariants.{Less}
use Rattle.row_cells.specs.declared.scalars.Scalar.{Scalar}
use Rattle.row_cells.specs.Limits.{longest_path, longest_key}
use Rattle.row_cells.specs.declared.scalars.Scalar.TheVariants.{Whole, Flag, Word}

-- a dimension of a series: the path of its field, and its value
pub record Dimension : Type 0 where
  pub path : List ℕ
  pub value : Scalar

-- two bytes of length, and the text
abbrev pub text_bytes : List ℕ → List ℕ
text_bytes t = to_be_bytes w16 (length t) ++ t

-- how far a number is above the least of 64 bits, which orders bytes as the numbers are
abbrev pub above_least : ℤ → ℕ
above_least v = unsigned_abs (v +ℤ pos (2 ^ 63))

abbrev pub flag_byte : Bool → ℕ
flag_byte true = 1
flag_byte false = 0

-- a tag and the value: 1 a text, 2 a number in eight bytes, 3 a truth value in one
abbrev pub value_bytes : Scalar → List ℕ
value_bytes (Word t) = 1 ∷ text_bytes t
value_bytes (Whole v) = 2 ∷ to_be_bytes w64 (above_least v)
value_bytes (Flag b) = 3 ∷ flag_byte b ∷ []

abbrev pub dimension_bytes : Dimension → List ℕ
dimension_bytes d = text_bytes d.path ++ value_bytes d.value

-- the key of a list of dimensions
abbrev pub key_bytes : List Dimension → List ℕ
key_bytes [] = []
key_bytes (d ∷ ds) = dimension_bytes d ++ key_bytes ds

-- what a dimension's value may be: a text that two bytes of length can count, or a number of 64 bits
abbrev pub IsKeyValue : Scalar → Type 0
IsKeyValue (Word t) = IsUtf8 t × (length t < 2 ^ 16)
IsKeyValue (Whole v) = FitsSigned w64 v
IsKeyValue (Flag b) = Unit {0}

-- a path of 1 to 512 bytes of UTF-8, and a value
pub record IsDimension (d : Dimension) : Type 0 where
  pub path_some : 0 < length d.path
  pub path_short : length d.path ≤ longest_path
  pub path_text : IsUtf8 d.path
  pub value_fits : IsKeyValue d.value

-- p stands before q in byte order
abbrev pub IsBefore : List ℕ → List ℕ → Type 0
IsBefore p q = slice_cmp nat_cmp p q ≡ Less

-- dimensions whose paths ascend strictly, all of them after the path `below`
abbrev pub AreDimensionsAfter : List ℕ → List Dimension → Type 0
AreDimensionsAfter below [] = Unit {0}
AreDimensionsAfter below (d ∷ ds) = IsBefore below d.path × IsDimension d × AreDimensionsAfter d.path ds

-- dimensions whose paths ascend strictly
abbrev pub AreDimensions : List Dimension → Type 0
AreDimensions ds = AreDimensionsAfter [] ds

-- the bytes are those of some dimensions, all of them after the path `below`
pub record SpellDimensionsAfter (below : List ℕ) (bytes : List ℕ) : Type 0 where
  pub dimensions : List Dimension
  pub ascending : AreDimensionsAfter below dimensions
  pub spelled : key_bytes dimensions ≡ bytes

-- the bytes are a key: at most 4,096 bytes that spell one or more dimensions whose paths ascend strictly
pub record IsKey (bytes : List ℕ) : Type 0 where
  pub spells : SpellDimensionsAfter [] bytes
  pub some : 0 < length bytes
  pub short : length bytes ≤ longest_key
