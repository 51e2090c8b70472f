use Rattle.std.proofs.Common.{◌≡◌, ◌*◌, ◌+◌, length, take, map}
use Rattle.std.specs.Prelude.{slice_range}
use Rattle.column_block.specs.Presence.{present}
use Rattle.row_cells.specs.Merging.{parts_of_value}
use Rattle.column_block.proofs.whole.WholeColumn.read_parts.Given as goal

abbrev pub invariant-loop-place : goal.invariant-loop-place
invariant-loop-place l = record {
  long : length l.into ≡ 128;
  parts : take l.place l.into ≡ take l.place (slice_range (map parts_of_value (present l.self)) (128 * l.block) (128 * l.block + 128));
}
