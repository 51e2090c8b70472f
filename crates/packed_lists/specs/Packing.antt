-- Lists of numbers while they are written and read.
use Rattle.std.specs.Prelude.{◌≡◌, ℕ, ℤ, ◌*◌, ◌<◌, ◌≤◌, List, [], ◌∷◌, length, take, drop, slice_range, get_or}
use Rattle.std.specs.List.{flat_map, concat}
use Rattle.packed_lists.specs.Nums.{IsNums, AreBlocksOf}
use Rattle.packed_lists.specs.Decoded.{AreBlocksAt}
use Rattle.packed_lists.specs.Lists.{items_before}
use Rattle.packed_lists.specs.declared.cursor.Cache.{Cache}
use Rattle.packed_lists.specs.declared.picks.Turn.{Turn}

-- whole blocks of a list, and fewer than 128 numbers behind them
pub record IsPacking (bytes places : List ℕ) (filled : ℕ) (done : List ℤ) : Type 0 where
  pub whole : length done ≡ 128 * length places
  pub blocks : List (List ℕ)
  pub as_many : length blocks ≡ length places
  pub packed : AreBlocksOf blocks done
  pub same : bytes ≡ concat blocks
  pub placed : AreBlocksAt bytes places done
  pub few : filled < 128

-- a list by its blocks and their places
pub record IsPacked (bytes places : List ℕ) (len : ℕ) (vs : List ℤ) : Type 0 where
  pub spelled : IsNums vs bytes
  pub placed : AreBlocksAt bytes places vs
  pub count : len ≡ length vs

-- the numbers of a block of a list
abbrev pub part_of : List ℤ → ℕ → List ℤ
part_of vs block = take 128 (drop (128 * block) vs)

-- nothing, or the numbers of a block
pub record IsCached (vs : List ℤ) (c : Cache) : Type 0 where
  pub numbers : 0 < c.count → take c.count c.buffer ≡ part_of vs c.block
  pub few : c.count ≤ 128

-- the numbers of a block, all of them
pub record IsLoaded (vs : List ℤ) (block : ℕ) (c : Cache) : Type 0 where
  pub which : c.block ≡ block
  pub count : c.count ≡ length (part_of vs block)
  pub numbers : take c.count c.buffer ≡ part_of vs block

-- a list that is read through an unpacked block
pub record IsReadBy (bytes places : List ℕ) (len : ℕ) (c : Cache) (vs : List ℤ) : Type 0 where
  pub placed : AreBlocksAt bytes places vs
  pub count : len ≡ length vs
  pub cached : IsCached vs c

-- some numbers of one of some lists
abbrev pub turn_of : {A : Type 0} → List (List A) → Turn → List A
turn_of lists t = slice_range (get_or lists t.source []) t.from t.to

abbrev pub picked : {A : Type 0} → List (List A) → List Turn → List A
picked lists turns = flat_map (turn_of lists) turns

-- a turn lies in its list
pub record Lies (lists : List (List ℤ)) (t : Turn) : Type 0 where
  pub source : t.source < length lists
  pub order : t.from ≤ t.to
  pub within : t.to ≤ length (get_or lists t.source [])

abbrev pub EachLies : List (List ℤ) → List Turn → Type 0
EachLies lists [] = Unit {0}
EachLies lists (t ∷ ts) = Lies lists t × EachLies lists ts

-- no turn ends before it begins
abbrev pub EachOrder : List Turn → Type 0
EachOrder [] = Unit {0}
EachOrder (t ∷ ts) = (t.from ≤ t.to) × EachOrder ts

-- the turn of the items of the lists that a turn takes
abbrev pub item_turn : {A : Type 0} → List (List (List A)) → Turn → Turn
item_turn lists t = record { source = t.source; from = items_before (get_or lists t.source []) t.from; to = items_before (get_or lists t.source []) t.to }
