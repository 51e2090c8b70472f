use Rattle.std.proofs.Common.{◌-◌, ◌≡◌, ℤ, ◌≤◌, ◌++◌, List}
use Rattle.std.specs.Prelude.{slice_range}
use Rattle.packed_lists.specs.Decoded.{AreBlocksAt}
use Rattle.packed_lists.proofs.blocks.put_range.Given as goal

abbrev pub invariant-loop-at : goal.invariant-loop-at
invariant-loop-at l = record {
  order : l.from ≤ l.at;
  within : l.from ≤ l.to → l.at ≤ l.to;
  numbers : (vs : List ℤ) → AreBlocksAt l.bytes l.places vs → l.into.items ≡ l.fn.into.items ++ slice_range vs l.from l.at;
}

abbrev pub decreases-loop-at : goal.decreases-loop-at
decreases-loop-at l = l.to - l.at
