use Rattle.std.proofs.Common.{arith, ap, ◌∙◌, take, drop}
use Rattle.row_cells.proofs.Spelled.{text_split}
use Rattle.row_cells.proofs.ReadBack.{counted, take_front, drop_front}
use Rattle.row_cells.proofs.texts.read_text.Goals as goal

pub returns-clause-some : goal.returns-clause-some
returns-clause-some c =
    let cut = c.in_ok-head.ensures.cases in
    text_split c.args.bytes.now c.in_ok-head.head.now c.in_ok-head.rest.now c.split_at.result.0.now c.split_at.result.1.now c.from_be_bytes-count.result (λ i. omega (arith, c.type_inv.bytes i)) cut.0 cut.1 cut.2 c.from_be_bytes-count.ensures c.from_be_bytes-count.type_inv c.split_at.ensures.front c.split_at.ensures.back c.split_at.ensures.front_len

pub returns-clause-reads : goal.returns-clause-reads
returns-clause-reads c =
    λ text rest short same.
    let cut = c.in_ok-head.ensures.cases in
    let at = counted c.args.bytes.now c.in_ok-head.head.now c.in_ok-head.rest.now text rest c.from_be_bytes-count.result cut.0 cut.1 c.from_be_bytes-count.ensures short same in (
      c.split_at.ensures.front ∙ (ap (take c.from_be_bytes-count.result) at.tail_is ∙ take_front text rest c.from_be_bytes-count.result at.count_is),
      c.split_at.ensures.back ∙ (ap (drop c.from_be_bytes-count.result) at.tail_is ∙ drop_front text rest c.from_be_bytes-count.result at.count_is),
    )
