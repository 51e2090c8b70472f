use Rattle.std.proofs.Common.{◌≡◌, ◌∙◌, ap, sym, subst, arith, ◌≤◌, ◌-◌, ◌*◌, ◌/◌, ◌++◌, length, ℤ, List, take, drop}
use Rattle.std.specs.Prelude.{slice_range, min}
use Rattle.std.proofs.lemmas.List.{append_assoc, length-take, length-drop}
use Rattle.packed_lists.specs.Laws.Placing.{block-of, places-count, part-of-block, range-on}
use Rattle.packed_lists.specs.Laws.Decodes.{values_at-is}
use Rattle.packed_lists.proofs.blocks.put_range.Goals as goal

pub bounds-places-block : goal.bounds-places-block
bounds-places-block c =
    let (vs, h, order, within) = c.requires in
    omega (arith, (places-count c.args.bytes.now c.args.places.now vs h).0, c.loop-at-test.true)

pub put_from_block-requires : goal.put_from_block-requires
put_from_block-requires c =
    let (vs, h, order, within) = c.requires in
    let block = c.loop-at.at / 128 in
    let part = take 128 (drop (128 * block) vs) in
    let n : length part ≡ min 128 (length vs - 128 * block) = length-take 128 (drop (128 * block) vs) ∙ ap (min 128) (length-drop (128 * block) vs) in
    (part, block-of c.args.bytes.now c.args.places.now vs block h (omega (arith, (places-count c.args.bytes.now c.args.places.now vs h).0, c.loop-at-test.true)), omega (arith, c.leave-end.ensures, c.loop-at-test.true), omega (arith, c.leave-end.ensures, n, within))

pub loop-at-preserved : goal.loop-at-preserved
loop-at-preserved c =
    let at = c.loop-at.at in
    let end = c.leave-end.result in
    let first = 128 * (at / 128) in
    let up : at ≤ end = omega (arith, c.leave-end.ensures, c.loop-at-test.true) in
    record {
      order = omega (arith, up, c.loop-at.invariant.order);
      within = λ _. omega (arith, c.leave-end.ensures);
      numbers = λ vs h.
          let (us, g, order, within) = c.requires in
          let same : us ≡ vs = sym (values_at-is c.args.bytes.now c.args.places.now us g) ∙ values_at-is c.args.bytes.now c.args.places.now vs h in
          let most : c.args.to ≤ length vs = subst (λ (z : List ℤ). c.args.to ≤ length z) same within in
          let inside = block-of c.args.bytes.now c.args.places.now vs (at / 128) h (omega (arith, (places-count c.args.bytes.now c.args.places.now vs h).0, c.loop-at-test.true, most)) in
          c.in_ok-put_from_block.ensures (take 128 (drop first vs)) inside
          ∙ ap (λ z. c.loop-at.into.items ++ z) (part-of-block vs first at end (omega arith) up (omega (arith, c.leave-end.ensures)))
          ∙ ap (λ z. z ++ slice_range vs at end) (c.loop-at.invariant.numbers vs h)
          ∙ append_assoc c.args.into.now.items (slice_range vs c.args.from at) (slice_range vs at end)
          ∙ ap (λ z. c.args.into.now.items ++ z) (sym (range-on vs c.args.from at end c.loop-at.invariant.order up));
    }
