use Rattle.std.proofs.Common.{◌-◌, ◌≡◌, ◌≤◌, map}
use Rattle.std.specs.Prelude.{slice_range}
use Rattle.fold_law.specs.Laws.{fold_of}
use Rattle.fold_law.specs.Gauges.{no_gauge, merge_gauges, gauge_of_one}
use Rattle.column_block.specs.Presence.{present}
use Rattle.row_cells.specs.Merging.{parts_of_value}
use Rattle.column_block.proofs.whole.WholeColumn.gauge_numbers.Given as goal

abbrev pub invariant-loop-at : goal.invariant-loop-at
invariant-loop-at l = record {
  order : l.from ≤ l.at;
  within : l.from ≤ l.to → l.at ≤ l.to;
  gauge : l.gauge ≡ fold_of no_gauge merge_gauges gauge_of_one (slice_range (map parts_of_value (present l.self)) l.from l.at);
}

abbrev pub decreases-loop-at : goal.decreases-loop-at
decreases-loop-at l = l.to - l.at
