use Rattle.std.proofs.Common.{◌≡◌, ◌+◌, ◌-◌, ap, sym, subst, ◌∙◌, arith, replicate, []}
use Rattle.std.proofs.Common.{List}
use Rattle.row_cells.specs.Each.{Each}
use Rattle.tsds_index.specs.declared.shard.Shard.{Shard}
use Rattle.tsds_index.specs.Shards.{parts_of}
use Rattle.tsds_index.specs.Spread.{no_part}
use Rattle.tsds_index.proofs.Begun.{one_empty, one_unsealed}
use Rattle.tsds_index.proofs.shards.empty_shards.Goals as goal

pub loop-left-preserved : goal.loop-left-preserved
loop-left-preserved c =
    let more = one_empty c.loop-left.made.items c.new-shard.result (c.args.shards - c.loop-left.left) c.loop-left.invariant.parts c.new-shard.ensures.segments c.new-shard.ensures.rows in
    let n : (c.args.shards - c.loop-left.left) + 1 ≡ c.args.shards - (c.loop-left.left - 1) = omega arith in
    record {
      least = omega arith;
      parts = ap parts_of c.in_ok-push.ensures.items ∙ (more ∙ ap (λ k. replicate k no_part) n);
      unsealed = subst (λ (ss : List Shard). Each (λ shard. shard.sealed.items ≡ []) ss) (sym c.in_ok-push.ensures.items) (one_unsealed c.loop-left.made.items c.new-shard.result c.loop-left.invariant.unsealed c.new-shard.ensures.segments);
    }

pub returns-clause-parts : goal.returns-clause-parts
returns-clause-parts c =
    let n : c.args.shards - c.loop-left.left ≡ c.args.shards = omega arith in
    c.loop-left.invariant.parts ∙ ap (λ k. replicate k no_part) n
