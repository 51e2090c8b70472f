use Rattle.std.proofs.Common.{◌∙◌, ap, sym}
use Rattle.std.specs.Option.{option_copied}
use Rattle.row_cells.specs.declared.rows.Cell.TheVariants.{Absent}
use Rattle.histogram_aggs.proofs.StateSteps.{at_or, none_or}
use Rattle.histogram_aggs.proofs.offers.row_tally.Goals as goal

pub returns-in-Some : goal.returns-in-Some
returns-in-Some c =
    rw (at_or c.args.row.now.cells c.args.place Absent c.in-Some.cell.now (sym c.get.ensures.value ∙ ap (λ o. option_copied o) c.in-Some.is)) c.cell_tally.ensures

pub returns-in-None : goal.returns-in-None
returns-in-None c =
    rw (none_or c.args.row.now.cells c.args.place Absent (sym c.get.ensures.value ∙ ap (λ o. option_copied o) c.in-None.is)) c.cell_tally-in-None.ensures
