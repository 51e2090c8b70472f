use Rattle.std.proofs.Common.{subst, ◌++◌, List, ℕ}
use Rattle.std.proofs.lemmas.List.{take_all}
use Rattle.packed_lists.specs.Lists.{joined}
use Rattle.column_block.specs.Worded.{HaveSame}
use Rattle.column_block.proofs.Among.{same-list}
use Rattle.column_block.proofs.table.collect.Goals as goal

pub loop-list-preserved : goal.loop-list-preserved
loop-list-preserved c = same-list c.args.lists.now c.loop-list.set.keys c.collect_row.new.set.keys c.loop-list.list-index c.list-item.result c.loop-list-test.true c.list-item.is c.loop-list.invariant (subst (λ z. HaveSame c.collect_row.new.set.keys (c.loop-list.set.keys ++ z)) c.as_slice.ensures c.in_ok-collect_row.ensures)

pub returns : goal.returns
returns c = subst (λ (z : List (List (List ℕ))). HaveSame c.loop-list.set.keys (joined z)) (take_all c.loop-list.list-index c.args.lists.now c.loop-list-test.false) c.loop-list.invariant
