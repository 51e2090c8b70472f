use Rattle.std.proofs.Common.{subst, pos, refl}
use Rattle.std.specs.List.{All}
use Rattle.std.proofs.lemmas.List.{take_all}
use Rattle.column_block.specs.Cutting.{IsSize}
use Rattle.column_block.proofs.Cuts.{sizes-more}
use Rattle.column_block.proofs.rows.are_sizes.Goals as goal

pub loop-size-preserved : goal.loop-size-preserved
loop-size-preserved c =
    sizes-more c.args.sizes.now c.loop-size.size-index (pos 0) c.loop-size-test.true c.loop-size.invariant (c.if-not-is_size.ensures.0 refl)

pub returns : goal.returns
returns c = ((λ _. subst (λ z. All IsSize z) (take_all c.loop-size.size-index c.args.sizes.now c.loop-size-test.false) c.loop-size.invariant), (λ _. refl))
