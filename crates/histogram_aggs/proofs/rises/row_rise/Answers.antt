use Rattle.std.proofs.Common.{◌∙◌, ap, sym}
use Rattle.std.specs.Option.{option_copied}
use Rattle.row_cells.specs.declared.rows.Cell.TheVariants.{Absent}
use Rattle.histogram_aggs.proofs.StateSteps.{none_or}
use Rattle.histogram_aggs.proofs.rises.row_rise.Goals as goal

pub returns-in-None : goal.returns-in-None
returns-in-None c =
    rw (none_or c.args.row.now.cells c.args.place Absent (sym c.get.ensures.value ∙ ap (λ o. option_copied o) c.in-None.is)) c.rising_of-in-None.ensures
