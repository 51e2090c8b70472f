use Rattle.std.proofs.Common.{sym, ◌∙◌, take, drop}
use Rattle.std.proofs.lemmas.List.{take-append-drop}
use Rattle.packed_lists.specs.Laws.Fronts.{same-nums}
use Rattle.index_segment.proofs.pieces.read_numbers.Goals as goal

pub returns : goal.returns
returns c value spelling rest long is joined =
    let one = same-nums c.in-Some.read.numbers value (take c.in-Some.read.used c.args.bytes.now) spelling (drop c.in-Some.read.used c.args.bytes.now) rest ((rw c.in-Some.is at c.in_ok-found.ensures.count) ∙ sym long) (rw c.in-Some.is at c.in_ok-found.ensures.spelled) is (take-append-drop c.in-Some.read.used c.args.bytes.now ∙ joined) in
    (one.0, c.split_at.ensures.back ∙ one.2)
