-- Lists by their lengths and all their items.
use Rattle.std.specs.Prelude.{◌≡◌, ℕ, ℤ, pos, ◌≤ℤ◌, ◌+◌, ◌*◌, ◌/◌, ◌<◌, ◌≤◌, ◌^◌, List, [], ◌∷◌, length, take, drop, slice_index, unsigned_abs}
use Rattle.packed_lists.specs.Decoded.{AreBlocksAt, values_at}
use Rattle.packed_lists.specs.Nums.{AreNums}
use Rattle.row_cells.specs.Limits.{longest_list}
use Rattle.row_cells.specs.Each.{Each}
use Rattle.packed_lists.specs.Lists.{joined}
use Rattle.column_block.specs.Spelling.{lengths}

-- items cut into lists of some lengths
abbrev pub cut : {A : Type 0} → List ℤ → List A → List (List A)
cut [] xs = []
cut (n ∷ ns) xs = take (unsigned_abs n) xs ∷ cut ns (drop (unsigned_abs n) xs)

-- how many items lists of some lengths have
abbrev pub total : List ℤ → ℕ
total [] = 0
total (n ∷ ns) = unsigned_abs n + total ns

-- the length of a list
pub record IsSize (n : ℤ) : Type 0 where
  pub positive : pos 0 ≤ℤ n
  pub short : n ≤ℤ pos longest_list

-- how many items the lists before each 128th have, by their lengths
pub record AreStarts (sizes : List ℤ) (starts : List ℕ) : Type 0 where
  pub count : length starts ≡ length sizes / 128 + 1
  pub each : (k : ℕ) → k < length starts → slice_index starts k ≡ total (take (128 * k) sizes)

abbrev pub IsShort : List ℤ → Type 0
IsShort xs = length xs ≤ longest_list

-- what is kept of lists beside their bytes
pub record AreRows (front rows : ℕ) (bytes sizes numbers starts : List ℕ) (lists : List (List ℤ)) : Type 0 where
  pub length_is : length lists ≡ rows
  pub few : rows < 2 ^ 32
  pub short : Each IsShort lists
  pub inside : front ≤ length bytes
  pub spelled : AreNums (lengths lists ∷ joined lists ∷ []) (drop front bytes)
  pub sized : AreBlocksAt bytes sizes (lengths lists)
  pub placed : AreBlocksAt bytes numbers (joined lists)
  pub started : AreStarts (lengths lists) starts

-- lists by what is kept
unfoldable pub lists_at : List ℕ → List ℕ → List ℕ → List (List ℤ)
lists_at bytes sizes numbers = cut (values_at bytes sizes) (values_at bytes numbers)
