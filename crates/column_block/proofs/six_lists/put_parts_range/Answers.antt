use Rattle.std.proofs.Common.{◌≡◌, ◌∙◌, ap, sym, arith, ◌≤◌, ◌+◌, ◌-◌, ◌*◌, ◌/◌, ◌++◌}
use Rattle.std.specs.Prelude.{slice_range}
use Rattle.std.proofs.lemmas.List.{append_assoc}
use Rattle.packed_lists.specs.Laws.Placing.{range-on}
use Rattle.column_block.proofs.six_lists.put_parts_range.Goals as goal

pub put_from_parts-requires : goal.put_from_parts-requires
put_from_parts-requires c =
    let (ps, h, order, within) = c.requires in
    (ps, h, omega (arith, c.leave-end.ensures, c.loop-at-test.true), omega (arith, c.leave-end.ensures, c.loop-at-test.true), omega (arith, c.leave-end.ensures, c.loop-at-test.true, within))

pub loop-at-preserved : goal.loop-at-preserved
loop-at-preserved c =
    let at = c.loop-at.at in
    let end = c.leave-end.result in
    let block = at / 128 in
    let up : at ≤ end = omega (arith, c.leave-end.ensures, c.loop-at-test.true) in
    record {
      order = omega (arith, up, c.loop-at.invariant.order);
      within = λ _. omega (arith, c.leave-end.ensures);
      parts = λ ps h.
          let a : 128 * block + (at - 128 * block) ≡ at = omega arith in
          let b : 128 * block + (end - 128 * block) ≡ end = omega (arith, up) in
          c.in_ok-put_from_parts.ensures ps h
          ∙ ap (λ z. c.loop-at.into.items ++ slice_range ps z (128 * block + (end - 128 * block))) a
          ∙ ap (λ z. c.loop-at.into.items ++ slice_range ps at z) b
          ∙ ap (λ z. z ++ slice_range ps at end) (c.loop-at.invariant.parts ps h)
          ∙ append_assoc c.args.into.now.items (slice_range ps c.args.from at) (slice_range ps at end)
          ∙ ap (λ z. c.args.into.now.items ++ z) (sym (range-on ps c.args.from at end c.loop-at.invariant.order up));
    }

pub returns : goal.returns
returns c = λ ps h.
    let (us, g, order, within) = c.requires in
    let e : c.loop-at.at ≡ c.args.to = omega (arith, c.loop-at-test.false, c.loop-at.invariant.within order) in
    c.loop-at.invariant.parts ps h ∙ ap (λ z. c.args.into.now.items ++ slice_range ps c.args.from z) e
