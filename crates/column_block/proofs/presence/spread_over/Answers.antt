use Rattle.std.proofs.Common.{◌∙◌, arith}
use Rattle.column_block.proofs.Presences.{spread-inside, spread-more, spread-count, spread-end, bit-few}
use Rattle.column_block.proofs.presence.spread_over.Goals as goal

pub value_for-requires : goal.value_for-requires
value_for-requires g c = λ yes.
    spread-inside c.loop-row.row c.args.to c.loop-row.next c.args.bytes.now c.args.values.now c.is_marked-marked.result c.loop-row-test.true c.is_marked-marked.ensures c.loop-row.invariant.as_many yes

pub overflow_add-next : goal.overflow_add-next
overflow_add-next g c = record { fits = omega (arith, c.loop-row.invariant.few, c.loop-row-test.true, c.ranges.to.fits, c.bit_of-next.ensures, bit-few c.is_marked-marked.result) }

pub loop-row-preserved : goal.loop-row-preserved
loop-row-preserved g c =
    let l = c.loop-row in
    let b = c.is_marked-marked.result in
    rw (c.in_ok-push.ensures.items, c.bit_of-next.ensures) (record {
      rows = spread-more l.row c.args.to l.next c.args.bytes.now c.args.values.now b c.value_for.result l.rows.items _ c.loop-row-test.true c.is_marked-marked.ensures c.value_for.ensures l.invariant.rows;
      few = omega (arith, l.invariant.few, bit-few b);
      as_many = spread-count l.row c.args.to l.next c.args.bytes.now c.args.values.now b c.loop-row-test.true c.is_marked-marked.ensures l.invariant.as_many;
    })

pub returns : goal.returns
returns g c =
    c.from_vec.ensures ∙ spread-end c.loop-row.row c.args.to c.loop-row.next c.args.bytes.now c.args.values.now c.loop-row.rows.items _ c.loop-row-test.false c.loop-row.invariant.rows
