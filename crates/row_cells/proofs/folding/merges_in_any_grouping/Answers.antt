use Rattle.row_cells.specs.MergeLaws.{merge_of_rows_assoc, merge_of_rows-fold_of_row_left, merge_of_rows-fold_of_row_right, fold_of_row-merge_of_rows, fold_of_row-fold_of_row}
use Rattle.row_cells.proofs.folding.merges_in_any_grouping.Goals as goal

pub returns-clause-grouped : goal.returns-clause-grouped
returns-clause-grouped c = merge_of_rows_assoc

pub returns-clause-folded_before : goal.returns-clause-folded_before
returns-clause-folded_before c = merge_of_rows-fold_of_row_left

pub returns-clause-folded_later : goal.returns-clause-folded_later
returns-clause-folded_later c = merge_of_rows-fold_of_row_right

pub returns-clause-folded_after : goal.returns-clause-folded_after
returns-clause-folded_after c = fold_of_row-merge_of_rows

pub returns-clause-folded_again : goal.returns-clause-folded_again
returns-clause-folded_again c = fold_of_row-fold_of_row
