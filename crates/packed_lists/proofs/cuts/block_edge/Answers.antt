use Rattle.std.proofs.Common.{rules, arith}
use Rattle.packed_lists.proofs.Cutting.{doubled, paid, left-over}
use Rattle.packed_lists.proofs.cuts.block_edge.Goals as goal

pub loop-low-preserved-then-first_of-bound : goal.loop-low-preserved-then-first_of-bound
loop-low-preserved-then-first_of-bound g c =
    let i = c.loop-low.invariant in
    let some = c.loop-low-test.true in
    let twice = doubled c.tick.new.self c.loop-low.steps c.args.steps.now i.counted c.tick.ensures in
    record {
      low = i.low;
      order = omega (arith, some);
      high = omega (arith, i.high);
      before = i.before;
      behind = search rules;
      counted = omega (arith, i.counted, c.tick.ensures);
      rest = λ more. left-over _ _ _ _ _ (i.rest some) (omega (arith, some)) twice;
      cost = paid _ _ _ _ (i.rest some) (omega (arith, some)) twice;
    }

pub loop-low-preserved : goal.loop-low-preserved
loop-low-preserved g c =
    let i = c.loop-low.invariant in
    let some = c.loop-low-test.true in
    let twice = doubled c.tick.new.self c.loop-low.steps c.args.steps.now i.counted c.tick.ensures in
    record {
      low = omega (arith, i.low, some);
      order = omega (arith, some);
      high = i.high;
      before = search rules;
      behind = i.behind;
      counted = omega (arith, i.counted, c.tick.ensures);
      rest = λ more. left-over _ _ _ _ _ (i.rest some) (omega (arith, some)) twice;
      cost = paid _ _ _ _ (i.rest some) (omega (arith, some)) twice;
    }
