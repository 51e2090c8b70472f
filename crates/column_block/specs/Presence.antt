-- Which rows have a value.
use Rattle.std.specs.Prelude.{◌≡◌, ℕ, ◌+◌, ◌*◌, ◌/◌, ◌%◌, ◌<◌, Bool, true, false, nat_eq, List, [], ◌∷◌, length, map, slice_index, Option, Some, None}
use Rattle.std.proofs.Common.{suc}
use Rattle.std.specs.Int.{bit_at}
use Rattle.std.specs.Option.{is_some}
use Rattle.std.specs.List.{range_with_len}
use Rattle.column_pack.specs.Digits.{stream}

abbrev pub bit : Bool → ℕ
bit true = 1
bit false = 0

-- a bit a row, set where the row has a value: bit k mod 8 of byte k div 8 for row k. Spare bits are 0
abbrev pub presence : List Bool → List ℕ
presence flags = stream 1 (map bit flags)

abbrev pub flags_of : {A : Type 0} → List (Option A) → List Bool
flags_of xs = map is_some xs

-- the values that are there, in order of rows
abbrev pub present : {A : Type 0} → List (Option A) → List A
present [] = []
present (None ∷ xs) = present xs
present (Some x ∷ xs) = x ∷ present xs

-- the bit of a row
abbrev pub is_set : List ℕ → ℕ → Bool
is_set bytes row = nat_eq (bit_at (slice_index bytes (row / 8)) (row % 8)) 1

-- the bits of the first rows
unfoldable pub flags_in : ℕ → List ℕ → List Bool
flags_in rows bytes = map (is_set bytes) (range_with_len 0 rows)

-- how many are set
abbrev pub ones : List Bool → ℕ
ones [] = 0
ones (false ∷ bs) = ones bs
ones (true ∷ bs) = suc (ones bs)

-- how many of the rows before each 128th have a value
pub record AreCounts (rows : ℕ) (bytes counts : List ℕ) : Type 0 where
  pub count : length counts ≡ rows / 128 + 1
  pub each : (k : ℕ) → k < length counts → slice_index counts k ≡ ones (flags_in (128 * k) bytes)

-- values at the rows that have one
abbrev pub spread : {A : Type 0} → List Bool → List A → List (Option A)
spread [] xs = []
spread (false ∷ bs) xs = None ∷ spread bs xs
spread (true ∷ bs) [] = None ∷ spread bs []
spread (true ∷ bs) (x ∷ xs) = Some x ∷ spread bs xs
