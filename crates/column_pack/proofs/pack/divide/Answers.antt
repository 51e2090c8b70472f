use Rattle.std.proofs.Common.{ℕ, ◌/◌, arith}
use Rattle.column_pack.specs.Laws.Reduced.{mapped-at, mapped-more}
use Rattle.column_pack.proofs.pack.divide.Goals as goal

pub loop-i-preserved : goal.loop-i-preserved
loop-i-preserved c =
    let xs = c.args.numbers.now in
    let i = c.loop-i.i in
    let f = λ (x : ℕ). x / c.args.by in
    rw (c.loop-i.invariant, mapped-at f xs i (omega arith)) (mapped-more f xs i (omega arith))
