-- A list of numbers in a buffer.
use Rattle.std.specs.Prelude.{◌≡◌, ◌+◌, ℕ, ℤ, ◌*◌, ◌<◌, ◌≤◌, ◌++◌, List, length, take, drop}
use Rattle.std.specs.List.{concat}
use Rattle.packed_lists.specs.Nums.{IsNums, AreBlocksOf}
use Rattle.packed_lists.specs.Decoded.{AreBlocksAt}

-- a list of numbers stands between two places of bytes, and its blocks at others
pub record IsFound (bytes : List ℕ) (from to : ℕ) (places : List ℕ) (vs : List ℤ) : Type 0 where
  pub nums : List ℕ
  pub spelled : IsNums vs nums
  pub order : from ≤ to
  pub within : to ≤ length bytes
  pub behind : drop from bytes ≡ nums ++ drop to bytes
  pub placed : AreBlocksAt (take to bytes) places vs

-- the bytes begin with a list of so many numbers
abbrev pub Begins : ℕ → List ℕ → Type 0
Begins n bytes = (vs : List ℤ) × (nums rest : List ℕ) × (length vs ≡ n) × IsNums vs nums × (bytes ≡ nums ++ rest)

-- so many whole blocks, or all, of some numbers were put behind the old bytes
pub record ArePut (old now places : List ℕ) (done : ℕ) (vs : List ℤ) : Type 0 where
  pub blocks : List (List ℕ)
  pub count : length blocks ≡ done
  pub as_many : length places ≡ done
  pub packed : AreBlocksOf blocks (take (128 * done) vs)
  pub bytes : now ≡ old ++ concat blocks
  pub placed : AreBlocksAt now places (take (128 * done) vs)

-- the blocks of the first numbers of a list were found between two places of bytes, and so many numbers are left
pub record AreFound (bytes : List ℕ) (from to : ℕ) (places : List ℕ) (count left : ℕ) : Type 0 where
  pub vs : List ℤ
  pub blocks : List (List ℕ)
  pub as_many : length places ≡ length blocks
  pub whole : 0 < left → length vs ≡ 128 * length blocks
  pub done : length vs + left ≡ count
  pub packed : AreBlocksOf blocks vs
  pub order : from ≤ to
  pub within : to ≤ length bytes
  pub behind : drop from bytes ≡ concat blocks ++ drop to bytes
  pub placed : AreBlocksAt (take to bytes) places vs
  pub ahead : Begins count (drop from bytes) → Begins left (drop to bytes)
