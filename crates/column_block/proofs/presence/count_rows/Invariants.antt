use Rattle.std.proofs.Common.{◌≡◌, ◌*◌, ◌<◌, ◌≤◌, ℕ, length}
use Rattle.std.specs.Prelude.{slice_index}
use Rattle.column_block.specs.Presence.{ones, flags_in}
use Rattle.column_block.proofs.presence.count_rows.Given as goal

abbrev pub invariant-loop-group : goal.invariant-loop-group
invariant-loop-group l = record {
  count : l.count ≡ ones (flags_in (128 * l.group) l.bytes);
  few : l.count ≤ 128 * l.group;
  long : length l.counts.items ≡ l.group;
  each : (k : ℕ) → k < length l.counts.items → slice_index l.counts.items k ≡ ones (flags_in (128 * k) l.bytes);
}
