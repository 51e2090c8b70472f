use Rattle.row_cells.specs.HeadLaws.{head_row_from}
use Rattle.row_cells.proofs.heads.head_row.Goals as goal

pub returns-clause-fits : goal.returns-clause-fits
returns-clause-fits c =
    λ row mapped fits same.
    let fields = c.as_slice.ensures in
    let bytes = c.bytes.ensures.is in
    let cells = c.in_ok-cells.ensures in
    let key = c.in_ok-copy.ensures in
    head_row_from c.args.schema.now row _ c.args.key.now mapped fits same (cc)
