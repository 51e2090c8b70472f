use Rattle.std.proofs.Common.{◌∙◌, ap, arith, ◌++◌}
use Rattle.column_block.proofs.SixLists.{part-read}
use Rattle.column_block.proofs.six_lists.put_from_parts.Goals as goal

pub returns : goal.returns
returns c = λ ps h.
    let (us, g, order, inside, within) = c.requires in
    c.in_ok-put_some.ensures ∙ ap (λ z. c.args.into.now.items ++ z) (part-read ps _ c.args.block c.args.from c.args.to (omega (arith, order)) inside (c.read_parts-count.ensures.parts ps h))
