use Rattle.std.proofs.Common.{arith}
use Rattle.column_pack.specs.Laws.Walks.{walk-between, kept-up_between}
use Rattle.column_pack.proofs.pack.steps_between.Goals as goal

pub overflow_sub-steps : goal.overflow_sub-steps
overflow_sub-steps c = kept-up_between c.args.places.now c.loop-i.i c.requires.rising (omega arith)

pub returns : goal.returns
returns c = walk-between c.args.places.now c.loop-i.steps c.requires.some (omega arith) c.requires.rising (λ k h. c.loop-i.invariant k (omega arith))
