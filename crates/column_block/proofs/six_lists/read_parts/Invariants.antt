use Rattle.std.proofs.Common.{◌≡◌, ◌*◌, ◌+◌, List, length, take}
use Rattle.std.specs.Prelude.{slice_range}
use Rattle.fold_law.specs.declared.measures.Parts.{Parts}
use Rattle.packed_lists.specs.Decoded.{ArePlaced}
use Rattle.column_block.specs.Spelling.{six_lists}
use Rattle.column_block.proofs.six_lists.read_parts.Given as goal

abbrev pub invariant-loop-place : goal.invariant-loop-place
invariant-loop-place l = record {
  long : length l.into ≡ 128;
  parts : (ps : List Parts) → ArePlaced l.bytes l.places (six_lists ps) → take l.place l.into ≡ take l.place (slice_range ps (128 * l.block) (128 * l.block + 128));
}
