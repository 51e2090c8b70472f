use Rattle.std.proofs.Common.{arith, ◌+◌, ◌*◌, ◌^◌, length}
use Rattle.std.proofs.lemmas.Nat.{mul-le}
use Rattle.column_pack.specs.Block.{start_of}
use Rattle.column_pack.specs.Parts.{numbers_of}
use Rattle.column_pack.specs.Laws.Checks.{no-steps, total-bound, total-is, steps-range, steps-none, no-iff}
use Rattle.column_pack.proofs.sound.has_steps.Goals as goal

pub returns-then-offset-greatest : goal.returns-then-offset-greatest
returns-then-offset-greatest c =
    let h = c.args.header.now in
    let k = c.requires.spread in
    no-iff (no-steps (start_of h.kind h.first) h.offset h.factor c.args.spread.now.greatest c.args.residuals.now k.most (omega arith))

pub overflow_mul-total-2 : goal.overflow_mul-total-2
overflow_mul-total-2 c =
    let h = c.args.header.now in
    let s = c.args.spread.now in
    let k = c.requires.spread in
    omega (arith, total-bound h.factor s.greatest s.total c.args.residuals.now k.most k.whole c.requires.few (omega arith))

pub overflow_add-total : goal.overflow_add-total
overflow_add-total c =
    let h = c.args.header.now in
    let s = c.args.spread.now in
    let k = c.requires.spread in
    omega (arith, total-bound h.factor s.greatest s.total c.args.residuals.now k.most k.whole c.requires.few (omega arith), mul-le h.offset (length c.args.residuals.now) (2 ^ 64) 127 (omega arith) (omega arith))

pub overflow_add-result : goal.overflow_add-result
overflow_add-result c =
    let h = c.args.header.now in
    let s = c.args.spread.now in
    let k = c.requires.spread in
    omega (arith, total-bound h.factor s.greatest s.total c.args.residuals.now k.most k.whole c.requires.few (omega arith), mul-le h.offset (length c.args.residuals.now) (2 ^ 64) 127 (omega arith) (omega arith))

pub returns-then-total-gt0 : goal.returns-then-total-gt0
returns-then-total-gt0 c =
    let h = c.args.header.now in
    let rs = c.args.residuals.now in
    let t = h.offset * length rs + h.factor * c.args.spread.now.total in
    steps-range (start_of h.kind h.first) c.start_at.result t (numbers_of h.offset h.factor rs) c.start_at.ensures (total-is h.offset h.factor c.args.spread.now.total rs c.requires.spread.whole) (omega arith)

pub returns-else-total-gt0 : goal.returns-else-total-gt0
returns-else-total-gt0 c =
    let h = c.args.header.now in
    let rs = c.args.residuals.now in
    let t = h.offset * length rs + h.factor * c.args.spread.now.total in
    steps-none (start_of h.kind h.first) t (numbers_of h.offset h.factor rs) (total-is h.offset h.factor c.args.spread.now.total rs c.requires.spread.whole) (omega arith)
