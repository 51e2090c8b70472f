use Rattle.std.proofs.Common.{◌≡◌, ◌∙◌, ap, sym, arith, ◌+◌, ◌*◌, ◌-◌, take, drop, [], ◌∷◌}
use Rattle.std.proofs.lemmas.List.{length-append, length-take}
use Rattle.column_block.specs.Cutting.{total}
use Rattle.column_block.proofs.Cuts.{total-part}
use Rattle.column_block.proofs.Presences.{each-more}
use Rattle.column_block.proofs.rows.starts_of.Goals as goal

pub loop-block-preserved : goal.loop-block-preserved
loop-block-preserved c =
    let l = c.loop-block in
    let xs = c.args.sizes.now in
    let from = 128 * l.block in
    let next : from + 128 ≡ 128 * (l.block + 1) = omega arith in
    let n : from + 128 - from ≡ 128 = omega arith in
    rw c.in_ok-push.ensures.items (record {
      sum = omega (arith, l.invariant.sum, c.sum_of-sum.ensures.sum, total-part xs from (from + 128) (omega arith), ap (λ z. total (take z xs)) next);
      few = omega (arith, l.invariant.few, c.sum_of-sum.ensures.few, length-take (from + 128 - from) (drop from xs));
      long = omega (arith, length-append l.starts.items (l.sum ∷ []), l.invariant.long);
      each = each-more (λ k. total (take (128 * k) xs)) l.starts.items l.sum l.invariant.each (l.invariant.sum ∙ ap (λ k. total (take (128 * k) xs)) (sym l.invariant.long));
    })
