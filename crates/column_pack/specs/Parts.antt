use Rattle.std.specs.Prelude.{◌≡◌, ℕ, ◌+◌, ◌*◌, ◌^◌, ◌<◌, ◌≤◌, List, length, map, drop, sum, All, Contains}
use Rattle.column_pack.specs.declared.parts.Header.{Header}
use Rattle.column_pack.specs.declared.parts.Kind.{Kind}
use Rattle.column_pack.specs.declared.parts.Kind.TheVariants.{Plain, Rising, Falling}
use Rattle.column_pack.specs.Block.{Block, IsCanonical, layout, kind_of, places_of, below_top, rises, falls}
use Rattle.column_pack.specs.Digits.{number, digits}
use Rattle.column_pack.specs.Factor.{IsGreatestFactor}

-- the block with the fields of a header and some residuals
abbrev pub block_with : Header → List ℕ → Block
block_with h rs = record { kind = h.kind; first = h.first; offset = h.offset; factor = h.factor; width = h.width; residuals = rs }

-- rs are what is left of numbers above the least one, in units of the greatest factor
pub record IsReduced (ns : List ℕ) (least factor : ℕ) (rs : List ℕ) : Type 0 where
  pub numbers : map (λ d. least + d) (map (λ r. factor * r) rs) ≡ ns
  pub among : Contains ns least
  pub greatest : IsGreatestFactor factor (map (λ r. factor * r) rs)

-- the heights of values by their places
abbrev pub heights : Kind → List ℕ → List ℕ
heights Plain ps = ps
heights Rising ps = ps
heights Falling ps = map below_top ps

-- the numbers that residuals stand for
abbrev pub numbers_of : ℕ → ℕ → List ℕ → List ℕ
numbers_of low factor rs = map (λ d. low + d) (map (λ r. factor * r) rs)

-- heights are of 64 bits, and of a plain block
pub record HasPlainKind (ns : List ℕ) : Type 0 where
  pub below : All (λ p. p < 2 ^ 64) ns
  pub alike : rises ns ≡ falls ns

-- steps from a start lead somewhere, and not past 64 bits
pub record HasSteps (start : ℕ) (ns : List ℕ) : Type 0 where
  pub somewhere : 0 < sum ns
  pub below : start + sum ns < 2 ^ 64

-- values are of 64 bits, and have the kind of their block
pub record HasKind (b : Block) : Type 0 where
  pub range : All (λ p. p < 2 ^ 64) (places_of b)
  pub kind : b.kind ≡ kind_of (heights b.kind (places_of b))

-- a block that is the block of some values
pub record IsSound (b : Block) : Type 0 where
  pub canonical : IsCanonical b
  pub shape : HasKind b

-- the residuals that so many bytes have
abbrev pub residuals_in : List ℕ → ℕ → ℕ → List ℕ
residuals_in bytes width count = digits (2 ^ width) count (number 256 (drop 27 bytes))

-- bytes are those of the block with the fields h and so many residuals
pub record IsReading (bytes : List ℕ) (h : Header) (count : ℕ) : Type 0 where
  pub some : 0 < count
  pub few : count ≤ 128
  pub width : h.width ≤ 64
  pub front : 27 ≤ length bytes
  pub size : length bytes ≤ 1051
  pub same : bytes ≡ layout (block_with h (residuals_in bytes h.width count))
