use Rattle.std.proofs.Common.{◌≡◌, ◌*◌, ◌<◌, ◌≤◌, ℕ, length, take}
use Rattle.std.specs.Prelude.{slice_index}
use Rattle.row_cells.specs.Limits.{longest_list}
use Rattle.column_block.specs.Cutting.{total}
use Rattle.column_block.proofs.rows.starts_of.Given as goal

abbrev pub invariant-loop-block : goal.invariant-loop-block
invariant-loop-block l = record {
  sum : l.sum ≡ total (take (128 * l.block) l.sizes);
  few : l.sum ≤ longest_list * (128 * l.block);
  long : length l.starts.items ≡ l.block;
  each : (k : ℕ) → k < length l.starts.items → slice_index l.starts.items k ≡ total (take (128 * k) l.sizes);
}
