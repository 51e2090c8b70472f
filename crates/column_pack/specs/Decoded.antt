-- What a block holds, by its fields.
use Rattle.std.specs.Prelude.{ℕ, ℤ, pos, ◌-ℤ◌, ◌+◌, ◌*◌, ◌^◌, List, map, take, drop, slice_index}
use Rattle.std.specs.Int.{w64, from_be_bytes}
use Rattle.std.proofs.Common.{suc, zero}
use Rattle.column_pack.specs.declared.parts.Kind.{Kind}
use Rattle.column_pack.specs.declared.parts.Kind.TheVariants.{Plain, Rising, Falling}
use Rattle.column_pack.specs.Block.{Block, below_top, places_of}
use Rattle.column_pack.specs.Digits.{bytes_for}
use Rattle.column_pack.specs.Parts.{residuals_in}

-- as many of the bytes as the block that they begin with has
unfoldable pub front_block : List ℕ → List ℕ
front_block bytes = take (27 + bytes_for (slice_index bytes 0 * slice_index bytes 26)) bytes

abbrev pub code_kind : ℕ → Kind
code_kind zero = Plain
code_kind (suc zero) = Rising
code_kind (suc (suc n)) = Falling

-- the fields of a block
unfoldable pub block_in : List ℕ → Block
block_in bytes = record {
  kind = code_kind (slice_index bytes 1);
  first = from_be_bytes w64 (take 8 (drop 2 bytes));
  offset = from_be_bytes w64 (take 8 (drop 10 bytes));
  factor = from_be_bytes w64 (take 8 (drop 18 bytes));
  width = slice_index bytes 26;
  residuals = residuals_in bytes (slice_index bytes 26) (slice_index bytes 0);
}

-- the value that stands at a place of a block
abbrev pub at_place : Kind → ℕ → ℤ
at_place Plain p = pos p -ℤ pos (2 ^ 63)
at_place Rising p = pos p -ℤ pos (2 ^ 63)
at_place Falling p = pos (below_top p) -ℤ pos (2 ^ 63)

abbrev pub values_of : Block → List ℤ
values_of b = map (at_place b.kind) (places_of b)
