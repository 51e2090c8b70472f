use Rattle.std.proofs.Common.{subst, ◌++◌, List, ℕ}
use Rattle.std.proofs.lemmas.List.{take_all}
use Rattle.column_block.specs.Worded.{HaveSame}
use Rattle.column_block.proofs.Among.{same-more}
use Rattle.column_block.proofs.table.collect_row.Goals as goal

pub loop-text-preserved : goal.loop-text-preserved
loop-text-preserved c = same-more c.args.set.now.keys c.args.row.now c.loop-text.set.keys c.collect_text.new.set.keys c.loop-text.text-index c.text-item.result c.loop-text-test.true c.text-item.is c.loop-text.invariant c.in_ok-collect_text.ensures

pub returns : goal.returns
returns c = subst (λ (z : List (List ℕ)). HaveSame c.loop-text.set.keys (c.args.set.now.keys ++ z)) (take_all c.loop-text.text-index c.args.row.now c.loop-text-test.false) c.loop-text.invariant
