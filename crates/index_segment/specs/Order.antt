-- Keys in byte order, by their places.
use Rattle.std.specs.Prelude.{◌≡◌, ◌≢◌, ℕ, ◌<◌, ◌≤◌, List, [], ◌∷◌, length, slice_index_or}
use Rattle.std.specs.Ordering.{nat_cmp}
use Rattle.std.specs.Cmp.Lexicographic.{slice_cmp}
use Rattle.std.specs.declared.cmp.Ordering.TheVariants.{Less}
use Rattle.row_cells.specs.Dimensions.{IsBefore}

-- each key stands before the next one, and the first behind another
abbrev pub KeysAfter : List ℕ → List (List ℕ) → Type 0
KeysAfter low [] = Unit {0}
KeysAfter low (key ∷ keys) = IsBefore low key × KeysAfter key keys

abbrev pub KeysAscend : List (List ℕ) → Type 0
KeysAscend [] = Unit {0}
KeysAscend (key ∷ keys) = KeysAfter key keys

-- the same by places
abbrev pub Ascend : List (List ℕ) → Type 0
Ascend keys = (i j : ℕ) → i < j → j < length keys → slice_cmp nat_cmp (slice_index_or keys i []) (slice_index_or keys j []) ≡ Less

-- rows from one place up to another have the key, and no others do
pub record Stands (keys : List (List ℕ)) (key : List ℕ) (a b : ℕ) : Type 0 where
  pub ordered : a ≤ b
  pub within : b ≤ length keys
  pub before : (k : ℕ) → k < a → slice_index_or keys k [] ≢ key
  pub inside : (k : ℕ) → a ≤ k → k < b → slice_index_or keys k [] ≡ key
  pub behind : (k : ℕ) → b ≤ k → k < length keys → slice_index_or keys k [] ≢ key

-- no key is the one
abbrev pub NoneIs : List (List ℕ) → List ℕ → Type 0
NoneIs keys key = (k : ℕ) → k < length keys → slice_index_or keys k [] ≢ key
