use Rattle.std.proofs.Common.{◌∙◌, sym}
use Rattle.column_block.proofs.Among.{any-in, same-held, same-insert}
use Rattle.column_block.proofs.table.collect_text.Goals as goal

pub returns-then-contains : goal.returns-then-contains
returns-then-contains c = same-held c.args.text.now c.args.set.now.keys (any-in c.args.text.now c.args.set.now.keys (sym c.contains.ensures ∙ c.if-contains.true))

pub returns : goal.returns
returns c = rw (c.in_ok-insert.ensures.keys, c.in_ok-text.ensures) (same-insert c.args.text.now c.args.set.now.keys)
