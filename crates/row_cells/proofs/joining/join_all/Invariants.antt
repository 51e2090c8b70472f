use Rattle.std.proofs.Common.{◌≡◌, ◌++◌, ◌+◌, length}
use Rattle.row_cells.specs.Fitting.{FieldsAscend}
use Rattle.row_cells.specs.Joining.{join_fields}
use Rattle.row_cells.proofs.joining.join_all.Given as goal

abbrev pub invariant-loop-next : goal.invariant-loop-next
invariant-loop-next l = record {
  so_far : l.joined.items ++ join_fields l.first l.second ≡ join_fields l.fn.first l.fn.second;
  first_ascends : FieldsAscend l.first;
  second_ascends : FieldsAscend l.second;
}

abbrev pub decreases-loop-next : goal.decreases-loop-next
decreases-loop-next l = length l.first + length l.second
