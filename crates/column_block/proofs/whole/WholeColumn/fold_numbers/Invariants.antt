use Rattle.std.proofs.Common.{◌-◌, ◌≡◌, ◌≤◌}
use Rattle.std.proofs.Common.{map}
use Rattle.row_cells.specs.Merging.{parts_of_value}
use Rattle.std.specs.Prelude.{slice_range}
use Rattle.fold_law.specs.Laws.{fold_of}
use Rattle.column_block.specs.Presence.{present}
use Rattle.column_block.proofs.whole.WholeColumn.fold_numbers.Given as goal

abbrev pub invariant-loop-at : goal.invariant-loop-at
invariant-loop-at g l = let f = g.F.Fold in record {
  order : l.from ≤ l.at;
  within : l.from ≤ l.to → l.at ≤ l.to;
  folded : l.folded ≡ fold_of f.none f.merge f.one (slice_range (map parts_of_value (present l.self)) l.from l.at);
}

abbrev pub decreases-loop-at : goal.decreases-loop-at
decreases-loop-at g l = l.to - l.at
