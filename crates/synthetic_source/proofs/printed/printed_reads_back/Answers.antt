use Rattle.std.proofs.Common.{subst, Bool}
use Rattle.row_cells.specs.Fitting.{CellsFit}
use Rattle.synthetic_source.specs.Normal.{norm}
use Rattle.synthetic_source.proofs.PrintedTrees.{printed_read}
use Rattle.synthetic_source.proofs.PrintedRows.{all_small_raw, norm_printable, norm_depth}
use Rattle.synthetic_source.proofs.printed.printed_reads_back.Goals as goal

pub returns-clause-folded : goal.returns-clause-folded
returns-clause-folded c schema row template fits shallow small =
    printed_read (norm schema row) (norm_printable schema row template fits small) (norm_depth schema row shallow)

pub returns-clause-raw : goal.returns-clause-raw
returns-clause-raw c schema row template fits shallow raw =
    let cells = subst (λ (b : Bool). CellsFit b schema.rises row.count schema.fields row.cells) raw fits.cells_fit in
    returns-clause-folded c schema row template fits shallow (all_small_raw schema.rises row.count schema.fields row.cells cells)
