use Rattle.std.specs.Prelude.{◌≡◌, ℕ, ℤ, pos, negsuc, ◌+◌, ◌-◌, ◌*◌, ◌%◌, ◌^◌, ◌<◌, ◌≤◌, Bool, false, true, ◌||◌, nat_lt, List, [], ◌∷◌, ◌++◌, length, map, drop, slice_index, All, Contains, FitsSigned}
use Rattle.std.specs.Int.{to_be_bytes, w64}
use Rattle.std.proofs.Common.{suc}
use Rattle.column_pack.specs.Digits.{stream, greatest_of, IsWidth}
use Rattle.column_pack.specs.Factor.{IsGreatestFactor}
use Rattle.column_pack.specs.declared.parts.Kind.{Kind}
use Rattle.column_pack.specs.declared.parts.Kind.TheVariants.{Plain, Rising, Falling}

-- the parts of a block, as its bytes have them: a signed number is in two's complement
pub record Block : Type 0 where
  pub kind : Kind
  pub first : ℕ
  pub offset : ℕ
  pub factor : ℕ
  pub width : ℕ
  pub residuals : List ℕ

abbrev pub kind_code : Kind → ℕ
kind_code Plain = 0
kind_code Rising = 1
kind_code Falling = 2

-- the bytes in front of the residuals of a block with so many values
abbrev pub front : Block → ℕ → List ℕ
front b count = count ∷ kind_code b.kind ∷ (to_be_bytes w64 b.first ++ (to_be_bytes w64 b.offset ++ (to_be_bytes w64 b.factor ++ (b.width ∷ []))))

-- The bytes of a block: number of values, kind, first value, offset, factor, width, residuals.
unfoldable pub layout : Block → List ℕ
layout b = front b (length b.residuals) ++ stream b.width b.residuals

-- each part fits its bytes
pub record Fits (b : Block) : Type 0 where
  pub some : 0 < length b.residuals
  pub few : length b.residuals ≤ 128
  pub first : b.first < 2 ^ 64
  pub offset : b.offset < 2 ^ 64
  pub factor : b.factor < 2 ^ 64
  pub width : b.width ≤ 64

-- how far a signed number of 64 bits is above the least one
abbrev pub height : ℤ → ℕ
height (pos n) = n + 2 ^ 63
height (negsuc n) = 2 ^ 63 - suc n

-- from the other end: how far a number of that height is below the greatest one
abbrev pub below_top : ℕ → ℕ
below_top h = 2 ^ 64 - 1 - h

-- the height of the number that 64 bits are in two's complement
abbrev pub turned : ℕ → ℕ
turned bits = (bits + 2 ^ 63) % 2 ^ 64

-- where a value stands, for a block of a kind: by its height, and among values that fall by how far it is below the top
abbrev pub place : Kind → ℤ → ℕ
place Plain v = height v
place Rising v = height v
place Falling v = below_top (height v)

-- the places that steps lead to, from a place on
abbrev pub walk : ℕ → List ℕ → List ℕ
walk from [] = from ∷ []
walk from (step ∷ steps) = from ∷ walk (from + step) steps

-- the residuals that count: the first one of values that rise or fall is unused
abbrev pub counted : Kind → List ℕ → List ℕ
counted Plain rs = rs
counted Rising rs = drop 1 rs
counted Falling rs = drop 1 rs

-- what the first value and the first residual are, where they are unused
abbrev pub unused : Kind → ℕ → List ℕ → ℕ
unused Plain first rs = first
unused Rising first rs = slice_index rs 0
unused Falling first rs = slice_index rs 0

-- the offset as a height, where it is a value
abbrev pub low_of : Kind → ℕ → ℕ
low_of Plain offset = turned offset
low_of Rising offset = offset
low_of Falling offset = offset

-- where the first value stands
abbrev pub start_of : Kind → ℕ → ℕ
start_of Plain first = turned first
start_of Rising first = turned first
start_of Falling first = below_top (turned first)

-- how far the numbers of a block are above its offset: heights of values, or steps between neighbours
abbrev pub differences : Block → List ℕ
differences b = map (λ r. b.factor * r) (counted b.kind b.residuals)

abbrev pub numbers : Block → List ℕ
numbers b = map (λ d. low_of b.kind b.offset + d) (differences b)

-- the places of the values: the numbers themselves, or the sums of the steps
abbrev pub sums : Kind → ℕ → List ℕ → List ℕ
sums Plain start ns = ns
sums Rising start ns = walk start ns
sums Falling start ns = walk start ns

-- some number is greater, or less, than the one before
abbrev pub rises_after : ℕ → List ℕ → Bool
rises_after before [] = false
rises_after before (x ∷ xs) = nat_lt before x || rises_after x xs

abbrev pub falls_after : ℕ → List ℕ → Bool
falls_after before [] = false
falls_after before (x ∷ xs) = nat_lt x before || falls_after x xs

abbrev pub rises : List ℕ → Bool
rises [] = false
rises (x ∷ xs) = rises_after x xs

abbrev pub falls : List ℕ → Bool
falls [] = false
falls (x ∷ xs) = falls_after x xs

-- rising, where numbers never fall and aren't all equal; falling, where they never rise and aren't all equal; else plain
abbrev pub kind_from : Bool → Bool → Kind
kind_from true false = Rising
kind_from false true = Falling
kind_from true true = Plain
kind_from false false = Plain

abbrev pub kind_of : List ℕ → Kind
kind_of hs = kind_from (rises hs) (falls hs)

abbrev pub places_of : Block → List ℕ
places_of b = sums b.kind (start_of b.kind b.first) (numbers b)

-- no other parts say the same
pub record IsCanonical (b : Block) : Type 0 where
  pub fits : Fits b
  pub unused_zero : unused b.kind b.first b.residuals ≡ 0
  -- the offset is the least of the numbers, since none is below it
  pub least : Contains (numbers b) (low_of b.kind b.offset)
  pub factor : IsGreatestFactor b.factor (differences b)
  pub width : IsWidth b.width (greatest_of b.residuals)

-- b is the block of vs
pub record IsBlockOf (vs : List ℤ) (b : Block) : Type 0 where
  pub signed : All (FitsSigned w64) vs
  pub canonical : IsCanonical b
  pub values : places_of b ≡ map (place b.kind) vs
  pub kind : b.kind ≡ kind_of (map height vs)

-- the bytes are the canonical block of the values
abbrev pub IsBlock : List ℤ → List ℕ → Type 0
IsBlock vs bytes = (b : Block) × IsBlockOf vs b × (bytes ≡ layout b)
