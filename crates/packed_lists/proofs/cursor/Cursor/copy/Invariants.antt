use Rattle.std.proofs.Common.{◌-◌, ◌≡◌, ◌≤◌, ◌++◌}
use Rattle.std.specs.Prelude.{slice_range}
use Rattle.packed_lists.specs.Packing.{IsReadBy}
use Rattle.packed_lists.proofs.cursor.Cursor.copy.Given as goal

abbrev pub invariant-loop-at : goal.invariant-loop-at
invariant-loop-at l = record {
  order : l.from ≤ l.at;
  within : l.at ≤ l.to;
  read : IsReadBy l.self-inside.bytes.now l.self-inside.places.now l.self-inside.len l.self-inside.cache l.fn.self;
  numbers : l.into ≡ l.fn.into ++ slice_range l.fn.self l.from l.at;
}

abbrev pub decreases-loop-at : goal.decreases-loop-at
decreases-loop-at l = l.to - l.at
