use Rattle.std.proofs.Common.{◌∙◌, ap, sym, arith, pos, get_or, ◌+◌}
use Rattle.std.specs.Prelude.{unsigned_abs}
use Rattle.std.proofs.lemmas.List.Elements.{All-get_or}
use Rattle.column_block.specs.Cutting.{IsSize}
use Rattle.column_block.proofs.Cuts.{size-cast, size-small, total-more}
use Rattle.column_block.proofs.rows.sum_of.Goals as goal

pub loop-size-preserved : goal.loop-size-preserved
loop-size-preserved c =
    let l = c.loop-size in
    let v = get_or c.args.sizes.now l.size-index (pos 0) in
    let one : IsSize v = All-get_or IsSize c.args.sizes.now l.size-index (pos 0) c.loop-size-test.true c.requires.sizes in
    rw (size-cast v one) (record {
      sum = ap (λ z. z + unsigned_abs v) l.invariant.sum ∙ sym (total-more c.args.sizes.now l.size-index (pos 0) c.loop-size-test.true);
      few = omega (arith, l.invariant.few, size-small v one);
    })
