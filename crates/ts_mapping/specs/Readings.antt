-- What a leaf of a document is at a field of each type.
use Rattle.std.specs.Prelude.{ℕ, ◌==◌, ℤ, pos, negsuc, neg_ℤ, int_le, Bool, true, false, ◌&&◌, nat_le, List, [], ◌∷◌, length, codes, bytes_eq, if◌then◌else◌, Option, Some, None, option_and_then, option_map}
use Rattle.std.specs.Fmt.{signed_decimal}
use Rattle.std.specs.Str.{all_ascii_digits, is_utf8}
use Rattle.std.specs.Str.Parse.{digits_value}
use Rattle.serde_json.specs.Data.{Data, null, boolean, number, string, array, object}
use Rattle.serde_json.specs.Find.{get, as_number, as_i64, as_integer}
use Rattle.json_walk.specs.Names.{has_names}
use Rattle.fold_law.specs.declared.measures.Parts.{Parts}
use Rattle.row_cells.specs.declared.scalars.Scalar.{Scalar}
use Rattle.row_cells.specs.declared.scalars.Scalar.TheVariants.{Whole, Flag, Word}
use Rattle.row_cells.specs.declared.schemas.FieldType.{FieldType}
use Rattle.row_cells.specs.declared.schemas.FieldType.TheVariants.{Date, Keyword, Long, Integer, Short, Byte, Boolean, Aggregate}
use Rattle.row_cells.specs.Limits.{longest_word}
use Rattle.time_text.specs.Instant.{in_range, instant_of}
use Rattle.time_text.specs.Shape.{◌>>=◌}

-- 1 to 19 digits; leading zeros are taken
unfoldable pub natural_text : List ℕ → Option ℕ
natural_text s = if all_ascii_digits s && (nat_le 1 (length s) && nat_le (length s) 19) then Some (digits_value 10 s) else None

-- such digits, or a minus sign and such digits
abbrev pub whole_text : List ℕ → Option ℤ
whole_text [] = None
whole_text (b ∷ s) = if b == 45 then option_map (λ n. neg_ℤ (pos n)) (natural_text s) else option_map pos (natural_text (b ∷ s))

-- the range of a whole-number type; other types have no number
abbrev pub is_number_of : FieldType → ℤ → Bool
is_number_of Long v = int_le (negsuc 9223372036854775807) v && int_le v (pos 9223372036854775807)
is_number_of Integer v = int_le (negsuc 2147483647) v && int_le v (pos 2147483647)
is_number_of Short v = int_le (negsuc 32767) v && int_le v (pos 32767)
is_number_of Byte v = int_le (negsuc 127) v && int_le v (pos 127)
is_number_of Date v = false
is_number_of Keyword v = false
is_number_of Boolean v = false
is_number_of Aggregate v = false

abbrev pub in_type : FieldType → ℤ → Option ℤ
in_type kind v = if is_number_of kind v then Some v else None

-- the whole number that a leaf writes: a JSON whole number of signed 64 bits, or a text
abbrev pub whole_of : Data → Option ℤ
whole_of null = None
whole_of (boolean b) = None
whole_of (number n) = as_i64 n
whole_of (string s) = whole_text s
whole_of (array ds) = None
whole_of (object ms) = None

-- a whole number of a type
abbrev pub number_of : FieldType → Data → Option ℤ
number_of kind leaf = option_and_then (in_type kind) (whole_of leaf)

-- an instant: a text of one, or a JSON whole number of milliseconds in range
abbrev pub date_of : Data → Option ℤ
date_of null = None
date_of (boolean b) = None
date_of (number n) = option_and_then in_range (as_i64 n)
date_of (string s) = instant_of s
date_of (array ds) = None
date_of (object ms) = None

abbrev pub flag_text : Bool → List ℕ
flag_text true = codes "true"
flag_text false = codes "false"

-- a whole number of 64 bits, with or without a sign
abbrev pub has_64_bits : ℤ → Bool
has_64_bits v = int_le (negsuc 9223372036854775807) v && int_le v (pos 18446744073709551615)

abbrev pub number_word : ℤ → Option (List ℕ)
number_word v = if has_64_bits v then Some (signed_decimal v) else None

abbrev pub text_word : List ℕ → Option (List ℕ)
text_word s = if is_utf8 s && nat_le (length s) longest_word then Some s else None

-- a keyword: a text of at most 32,766 bytes of UTF-8, a JSON whole number of 64 bits with or without a sign as its decimal
-- text, or a truth value as its name
abbrev pub keyword_of : Data → Option (List ℕ)
keyword_of null = None
keyword_of (boolean b) = Some (flag_text b)
keyword_of (number n) = option_and_then number_word (as_integer n)
keyword_of (string s) = text_word s
keyword_of (array ds) = None
keyword_of (object ms) = None

-- `true`, `false` and the empty text, which is false
abbrev pub named_flag : List ℕ → Option Bool
named_flag s =
    if bytes_eq s (codes "true") then Some true
    else (if bytes_eq s (codes "false") then Some false
    else (if bytes_eq s [] then Some false else None))

-- a truth value, or a text that names one
abbrev pub flag_of : Data → Option Bool
flag_of null = None
flag_of (boolean b) = Some b
flag_of (number n) = None
flag_of (string s) = named_flag s
flag_of (array ds) = None
flag_of (object ms) = None

-- The reading of a leaf at a field of a type, where it has one. An aggregate's leaf is read by `aggregate_of`.
abbrev pub reading_of : FieldType → Data → Option Scalar
reading_of Date leaf = option_map Whole (date_of leaf)
reading_of Keyword leaf = option_map Word (keyword_of leaf)
reading_of Long leaf = option_map Whole (number_of Long leaf)
reading_of Integer leaf = option_map Whole (number_of Integer leaf)
reading_of Short leaf = option_map Whole (number_of Short leaf)
reading_of Byte leaf = option_map Whole (number_of Byte leaf)
reading_of Boolean leaf = option_map Flag (flag_of leaf)
reading_of Aggregate leaf = None

-- the members of an aggregate
abbrev pub parts_names : List (List ℕ)
parts_names = codes "max" ∷ codes "min" ∷ codes "sum" ∷ codes "value_count" ∷ []

-- a member that is a JSON whole number of signed 64 bits
abbrev pub whole_at : List ℕ → Data → Option ℤ
whole_at name leaf = option_and_then (in_type Long) (option_and_then as_i64 (option_and_then as_number (get name leaf)))

abbrev pub counted_parts : ℤ → ℤ → ℤ → ℤ → Option Parts
counted_parts min max sum count =
    if int_le (pos 1) count then Some (record { min = min; max = max; sum = sum; count = count }) else None

-- The parts of an aggregate's leaf: an object with exactly the four members, each a JSON whole number of 64 bits, and a value
-- count of at least 1. The minimum may be above the maximum.
abbrev pub aggregate_of : Data → Option Parts
aggregate_of leaf =
    if has_names parts_names leaf
    then (whole_at (codes "min") leaf >>= λ min.
    whole_at (codes "max") leaf >>= λ max.
    whole_at (codes "sum") leaf >>= λ sum.
    whole_at (codes "value_count") leaf >>= λ count.
    counted_parts min max sum count)
    else None
