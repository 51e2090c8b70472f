use Rattle.std.proofs.Common.{arith}
use Rattle.index_segment.proofs.Joints.{only_first, only_second, less, greater, equal, items_order}
use Rattle.index_segment.proofs.shares.join_next.Goals as goal

pub returns-then-from-first-clause-goes : goal.returns-then-from-first-clause-goes
returns-then-from-first-clause-goes c = only_second _ _ _ _ _ _ _ _ c.requires.same c.requires.same_too (omega arith) (omega arith) c.in_ok-next.ensures.keys c.in_ok-next.ensures.rows c.in_ok-next.ensures.next

pub returns-then-from-second-clause-goes : goal.returns-then-from-second-clause-goes
returns-then-from-second-clause-goes c = only_first _ _ _ _ _ _ _ _ c.requires.same c.requires.same_too (omega arith) (omega arith) c.in_ok-next-2.ensures.keys c.in_ok-next-2.ensures.rows c.in_ok-next-2.ensures.next

pub returns-in_ok-next-in-Less-clause-goes : goal.returns-in_ok-next-in-Less-clause-goes
returns-in_ok-next-in-Less-clause-goes c =
    less c.args.first.keys.now c.args.second.keys.now _ _ c.args.from _ _ _ c.requires.same c.requires.same_too (omega arith) (omega arith)
    (items_order c.args.first.keys.now c.args.second.keys.now c.args.from.first c.args.from.second _ _ c.cmp.result _ (omega arith) (omega arith) c.cmp.ensures c.in-Less.is) c.in_ok-next-in-Less.ensures.keys c.in_ok-next-in-Less.ensures.rows c.in_ok-next-in-Less.ensures.next

pub returns-in_ok-next-in-Greater-clause-goes : goal.returns-in_ok-next-in-Greater-clause-goes
returns-in_ok-next-in-Greater-clause-goes c =
    greater c.args.first.keys.now c.args.second.keys.now _ _ c.args.from _ _ _ c.requires.same c.requires.same_too (omega arith) (omega arith)
    (items_order c.args.first.keys.now c.args.second.keys.now c.args.from.first c.args.from.second _ _ c.cmp.result _ (omega arith) (omega arith) c.cmp.ensures c.in-Greater.is) c.in_ok-next-in-Greater.ensures.keys c.in_ok-next-in-Greater.ensures.rows c.in_ok-next-in-Greater.ensures.next

pub returns-in_ok-next-in-Equal-clause-goes : goal.returns-in_ok-next-in-Equal-clause-goes
returns-in_ok-next-in-Equal-clause-goes c =
    equal c.args.first.keys.now c.args.second.keys.now _ _ c.args.from _ _ _ c.requires.same c.requires.same_too (omega arith) (omega arith)
    (items_order c.args.first.keys.now c.args.second.keys.now c.args.from.first c.args.from.second _ _ c.cmp.result _ (omega arith) (omega arith) c.cmp.ensures c.in-Equal.is) c.in_ok-next-in-Equal.ensures.keys c.in_ok-next-in-Equal.ensures.rows c.in_ok-next-in-Equal.ensures.next
