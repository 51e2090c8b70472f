use Rattle.std.proofs.Common.{◌≡◌, ◌∙◌, ap, sym, arith, length, ◌-◌, ◌+◌, ◌*◌, ◌≤◌, drop, map}
use Rattle.std.specs.Option.{is_some}
use Rattle.column_pack.specs.Digits.{number}
use Rattle.column_block.specs.Presence.{bit, flags_of}
use Rattle.column_block.proofs.Presences.{byte-more, byte-small, bit-few}
use Rattle.column_block.proofs.presence.byte_of.Goals as goal

pub overflow_mul-byte : goal.overflow_mul-byte
overflow_mul-byte g c =
    let rows = c.args.rows.now in
    let n : length rows ≤ 8 = c.requires in
    record { fits = omega (arith, byte-small rows c.loop-row.row (omega arith) (omega arith), c.loop-row.invariant) }

pub overflow_add-byte : goal.overflow_add-byte
overflow_add-byte g c =
    let rows = c.args.rows.now in
    let n : length rows ≤ 8 = c.requires in
    record { fits = omega (arith, byte-small rows c.loop-row.row (omega arith) (omega arith), c.loop-row.invariant, c.bit_of.ensures, bit-few c.is_some.result) }

pub loop-row-preserved : goal.loop-row-preserved
loop-row-preserved g c =
    let rows = c.args.rows.now in
    let e : c.bit_of.result ≡ bit (is_some c.index-rows-rows.result) = c.bit_of.ensures ∙ ap bit c.is_some.ensures in
    ap (λ z. 2 * z + c.bit_of.result) c.loop-row.invariant ∙ ap (λ z. 2 * number 2 (drop (length rows - c.loop-row.row) (map bit (flags_of rows))) + z) e ∙ sym (byte-more rows c.loop-row.row c.index-rows-rows.result c.loop-row-test.true c.index-rows-rows.is)

pub overflow_cast-result : goal.overflow_cast-result
overflow_cast-result g c =
    let rows = c.args.rows.now in
    let n : length rows ≤ 8 = c.requires in
    record { fits = omega (arith, byte-small rows c.loop-row.row (omega (arith, c.loop-row.auto.row-end)) (omega (arith, c.loop-row.auto.row-end)), c.loop-row.invariant) }
