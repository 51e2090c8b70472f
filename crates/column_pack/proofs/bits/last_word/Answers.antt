use Rattle.std.proofs.Common.{◌-◌, arith}
use Rattle.column_pack.specs.Laws.Words.{bytes-all, last-lt}
use Rattle.column_pack.proofs.bits.last_word.Goals as goal

pub overflow_mul-word : goal.overflow_mul-word
overflow_mul-word c = omega (arith, last-lt c.args.bytes.now c.loop-i.i (bytes-all c.args.bytes.now c.type_inv.bytes) (omega arith) (omega arith))

pub overflow_add-word : goal.overflow_add-word
overflow_add-word c = omega (arith, last-lt c.args.bytes.now c.loop-i.i (bytes-all c.args.bytes.now c.type_inv.bytes) (omega arith) (omega arith), c.type_inv.bytes (c.loop-i.i - 1))
