use Rattle.std.proofs.Common.{◌∙◌}
use Rattle.row_cells.specs.WidenLaws.{walk_cells_is}
use Rattle.row_cells.proofs.widening.widen_all.Goals as goal

pub returns : goal.returns
returns c =
    let walked = rw (c.as_slice.ensures, c.as_slice-2.ensures, c.as_slice-3.ensures) at c.in_ok-cells.ensures in
    walked ∙ walk_cells_is c.args.narrow.now c.args.wide.now c.args.row.now c.requires.fits c.requires.narrow_ascends c.requires.wide_ascends c.requires.within
