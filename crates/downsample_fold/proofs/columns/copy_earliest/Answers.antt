use Rattle.std.proofs.Common.{◌≡◌, ◌-◌, IfOk, ◌∙◌, subst, arith, length}
use Rattle.row_cells.specs.declared.rows.Cell.{Cell}
use Rattle.downsample_fold.proofs.ColumnSteps.{earliest_is}
use Rattle.downsample_fold.proofs.columns.copy_earliest.Goals as goal

pub returns : goal.returns
returns c =
    subst (λ (cell : Cell). IfOk c.copy_cell.result (λ copy. copy ≡ cell))
    (c.cell_at.ensures ∙ earliest_is c.args.place c.args.rows.now (length c.args.rows.now - 1) c.index-rows-rows.result c.index-rows-rows.is (omega arith))
    c.copy_cell.ensures
