use Rattle.std.proofs.Common.{◌-◌, ◌≡◌, ◌≤◌, ◌++◌, List}
use Rattle.std.specs.Prelude.{slice_range}
use Rattle.fold_law.specs.declared.measures.Parts.{Parts}
use Rattle.packed_lists.specs.Decoded.{ArePlaced}
use Rattle.column_block.specs.Spelling.{six_lists}
use Rattle.column_block.proofs.six_lists.put_parts_range.Given as goal

abbrev pub invariant-loop-at : goal.invariant-loop-at
invariant-loop-at l = record {
  order : l.from ≤ l.at;
  within : l.from ≤ l.to → l.at ≤ l.to;
  parts : (ps : List Parts) → ArePlaced l.bytes l.places (six_lists ps) → l.into.items ≡ l.fn.into.items ++ slice_range ps l.from l.at;
}

abbrev pub decreases-loop-at : goal.decreases-loop-at
decreases-loop-at l = l.to - l.at
