use Rattle.std.proofs.Common.{arith}
use Rattle.index_segment.specs.Merging.{picked, sides}
use Rattle.index_segment.proofs.Sides.{turn_moved}
use Rattle.index_segment.proofs.pick.pick.Goals as goal

pub loop-turn-preserved : goal.loop-turn-preserved
loop-turn-preserved g c = turn_moved c.args.turns.now c.loop-turn.turn-index (omega arith) (picked (sides c.args.turns.now) c.args.first c.args.second) c.loop-turn.all c.move_items.new.into c.move_items-in-loop-turn.new.into c.loop-turn.first c.move_items.new.from c.loop-turn.second c.move_items-in-loop-turn.new.from c.in_ok-move_items.ensures.into c.in_ok-move_items.ensures.from c.in_ok-move_items-2.ensures.into c.in_ok-move_items-2.ensures.from c.loop-turn.invariant
