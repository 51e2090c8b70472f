use Rattle.std.proofs.Common.{◌∙◌, take, drop}
use Rattle.std.proofs.lemmas.List.{take-append-drop}
use Rattle.index_segment.proofs.pieces.read_column.Goals as goal

pub returns-in-Ok : goal.returns-in-Ok
returns-in-Ok c value spelling rest long is joined =
    let one = c.one_value.ensures.column c.args.kind c.args.rows c.in-Ok.read.column value (take c.in-Ok.read.used c.args.bytes.now) spelling (drop c.in-Ok.read.used c.args.bytes.now) rest c.in-Ok.ensures.column long c.in-Ok.ensures.spelled is (take-append-drop c.in-Ok.read.used c.args.bytes.now ∙ joined) in
    (one.0, c.split_at.ensures.back ∙ one.2)
