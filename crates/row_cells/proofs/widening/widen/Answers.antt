use Rattle.row_cells.specs.WidenLaws.{widen_of_row_fits}
use Rattle.row_cells.proofs.widening.widen.Goals as goal

pub returns-in_err-copy-clause-fits : goal.returns-in_err-copy-clause-fits
returns-in_err-copy-clause-fits c = widen_of_row_fits c.args.narrow.now c.args.wide.now c.args.row.now c.requires.fits c.requires.narrow_ascends c.requires.wide_ascends c.requires.within

pub returns-in_err-widen_all-clause-fits : goal.returns-in_err-widen_all-clause-fits
returns-in_err-widen_all-clause-fits c = widen_of_row_fits c.args.narrow.now c.args.wide.now c.args.row.now c.requires.fits c.requires.narrow_ascends c.requires.wide_ascends c.requires.within

pub returns-clause-fits : goal.returns-clause-fits
returns-clause-fits c = widen_of_row_fits c.args.narrow.now c.args.wide.now c.args.row.now c.requires.fits c.requires.narrow_ascends c.requires.wide_ascends c.requires.within
