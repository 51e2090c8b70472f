-- Parts as six lists of numbers, and what a column of parts keeps beside its bytes.
use Rattle.std.specs.Prelude.{◌≡◌, ℕ, ℤ, pos, ◌-◌, ◌<◌, ◌≤◌, ◌^◌, List, [], ◌++◌, length, map, take, drop, get_or, Option}
use Rattle.std.specs.List.{range_with_len}
use Rattle.fold_law.specs.declared.measures.Parts.{Parts}
use Rattle.column_block.specs.declared.kinds.Values.TheVariants.{Parts as PartsOf}
use Rattle.packed_lists.specs.Decoded.{ArePlaced, values_at}
use Rattle.packed_lists.specs.Nums.{AreNums}
use Rattle.column_block.specs.Presence.{present, ones, flags_in, spread, AreCounts}
use Rattle.row_cells.specs.Each.{Each}
use Rattle.column_block.specs.Rules.{AreParts}
use Rattle.column_block.specs.Spelling.{Spells, six_lists, whole_of}

-- the number at a place of one of some lists
abbrev pub number_at : List (List ℤ) → ℕ → ℕ → ℤ
number_at lists which k = get_or (get_or lists which []) k (pos 0)

-- the parts at a place of six lists
abbrev pub parts_at : List (List ℤ) → ℕ → Parts
parts_at lists k = record {
  min = number_at lists 0 k;
  max = number_at lists 1 k;
  sum = whole_of (number_at lists 2 k) (number_at lists 3 k);
  count = whole_of (number_at lists 4 k) (number_at lists 5 k);
}

-- the first of them
unfoldable pub first_parts : ℕ → List (List ℤ) → List Parts
first_parts n lists = map (parts_at lists) (range_with_len 0 n)

-- the rows of a column, by its bytes and the places of the blocks of its lists
abbrev pub rows_held : ℕ → List ℕ → List (List ℕ) → List (Option Parts)
rows_held rows bytes places = spread (flags_in rows bytes) (first_parts (ones (flags_in rows bytes)) (map (values_at bytes) places))

pub record IsPartsColumn (rows : ℕ) (bytes : List ℕ) (places : List (List ℕ)) (counts : List ℕ) (vs : List (Option Parts)) : Type 0 where
  pub length_is : length vs ≡ rows
  pub few : rows < 2 ^ 32
  pub rules : Each AreParts (present vs)
  pub spelled : Spells (PartsOf vs) bytes
  pub placed : ArePlaced bytes places (six_lists (present vs))
  pub counted : AreCounts rows bytes counts

-- some lists, of so many numbers each, stand between two places of bytes, and their blocks at others
pub record AreListsFound (bytes : List ℕ) (from to : ℕ) (places : List (List ℕ)) (count : ℕ) (lists : List (List ℤ)) : Type 0 where
  pub nums : List ℕ
  pub spelled : AreNums lists nums
  pub each : Each (λ vs. length vs ≡ count) lists
  pub order : from ≤ to
  pub within : to ≤ length bytes
  pub behind : drop from bytes ≡ nums ++ drop to bytes
  pub placed : ArePlaced (take to bytes) places lists

-- the bytes begin with so many lists of so many numbers each
abbrev pub BeginsLists : ℕ → ℕ → List ℕ → Type 0
BeginsLists lists_count count bytes =
    (lists : List (List ℤ)) × (nums rest : List ℕ) × (length lists ≡ lists_count) × Each (λ vs. length vs ≡ count) lists × AreNums lists nums × (bytes ≡ nums ++ rest)

-- so many of them were found, and the others lie ahead
abbrev pub AreListsAhead : List ℕ → ℕ → ℕ → List (List ℕ) → ℕ → ℕ → ℕ → Type 0
AreListsAhead bytes from to places count done all =
    (lists : List (List ℤ)) × AreListsFound bytes from to places count lists × (length lists ≡ done)
    × (BeginsLists all count (drop from bytes) → BeginsLists (all - done) count (drop to bytes))
