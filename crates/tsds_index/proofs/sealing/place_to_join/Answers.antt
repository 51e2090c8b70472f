use Rattle.std.proofs.Common.{ap, sym, ◌∙◌}
use Rattle.tsds_index.specs.Sealing.{is_joined}
use Rattle.tsds_index.proofs.Rules.{join_more}
use Rattle.tsds_index.proofs.sealing.place_to_join.Goals as goal

pub loop-older-preserved : goal.loop-older-preserved
loop-older-preserved c =
    join_more c.args.segments.now c.loop-older.left.now c.in-Some.rest.now c.in-Some.older.now c.args.rows c.loop-older.size c.len-size.result c.in-Some.ensures.cases.0 c.len-size.ensures c.loop-older.invariant
    (c.if-not-is_joined.ensures ∙ ap (λ k. is_joined k c.loop-older.size) (c.len.ensures ∙ sym c.len-size.ensures))
