use Rattle.std.proofs.Common.{rules, ◌*◌, ◌+◌}
use Rattle.column_block.proofs.SixLists.{parts-more, inside-block, all-read, parts-read, as-far}
use Rattle.column_block.proofs.six_lists.read_parts.Goals as goal

pub loop-place-preserved : goal.loop-place-preserved
loop-place-preserved c = record {
  long = search rules;
  parts = λ ps h.
      let k = c.loop-place.place in
      let n = c.read_list-count.ensures.count ps h in
      parts-more ps c.args.block k c.read_list-count.result c.loop-place.into _ c.loop-place-test.true n c.loop-place.invariant.long (c.loop-place.invariant.parts ps h)
      (parts-read c.args.bytes.now c.args.places.now ps (128 * c.args.block + k) _ _ _ _ _ _ c.join_halves.result c.join_halves-in-loop-place.result h (inside-block ps c.args.block k c.read_list-count.result c.loop-place-test.true n)
      (c.read_list-count.ensures.numbers ps h k c.loop-place-test.true)
      (c.read_list.ensures.numbers ps h k (as-far ps c.args.block c.read_list-count.result c.read_list.result k n (c.read_list.ensures.count ps h) c.loop-place-test.true))
      (c.read_list-2.ensures.numbers ps h k (as-far ps c.args.block c.read_list-count.result c.read_list-2.result k n (c.read_list-2.ensures.count ps h) c.loop-place-test.true))
      (c.read_list-3.ensures.numbers ps h k (as-far ps c.args.block c.read_list-count.result c.read_list-3.result k n (c.read_list-3.ensures.count ps h) c.loop-place-test.true))
      (c.read_list-4.ensures.numbers ps h k (as-far ps c.args.block c.read_list-count.result c.read_list-4.result k n (c.read_list-4.ensures.count ps h) c.loop-place-test.true))
      (c.read_list-5.ensures.numbers ps h k (as-far ps c.args.block c.read_list-count.result c.read_list-5.result k n (c.read_list-5.ensures.count ps h) c.loop-place-test.true))
      c.join_halves.ensures (record { sfits = c.join_halves.type_inv }) c.join_halves-in-loop-place.ensures (record { sfits = c.join_halves-in-loop-place.type_inv }));
}

pub returns-clause-parts : goal.returns-clause-parts
returns-clause-parts c = λ ps h. all-read c.loop-place.into _ c.read_list-count.result c.loop-place.place c.loop-place-test.false c.loop-place.auto.place-end (c.read_list-count.ensures.count ps h) (c.loop-place.invariant.parts ps h)
