use Rattle.std.proofs.Common.{◌^◌, length, arith}
use Rattle.std.proofs.lemmas.Nat.{mul-le}
use Rattle.column_pack.specs.Block.{turned}
use Rattle.column_pack.specs.Laws.Spans.{plain-span, greatest-number, whole-bound}
use Rattle.column_pack.proofs.summary.plain_span.Goals as goal

pub overflow_mul-result : goal.overflow_mul-result
overflow_mul-result c =
    let h = c.args.header.now in let k = c.requires.spread in
    omega (arith, greatest-number (turned h.offset) h.factor c.args.spread.now.greatest c.args.residuals.now k.most c.requires.some c.requires.range)

pub overflow_add-result : goal.overflow_add-result
overflow_add-result c =
    let h = c.args.header.now in let k = c.requires.spread in
    omega (arith, c.turn-low.ensures, greatest-number (turned h.offset) h.factor c.args.spread.now.greatest c.args.residuals.now k.most c.requires.some c.requires.range)

pub overflow_mul-result-3 : goal.overflow_mul-result-3
overflow_mul-result-3 c =
    let h = c.args.header.now in let k = c.requires.spread in let s = c.args.spread.now in
    omega (arith, whole-bound h.factor s.greatest s.total c.args.residuals.now k.most k.whole c.requires.few (omega (arith, greatest-number (turned h.offset) h.factor s.greatest c.args.residuals.now k.most c.requires.some c.requires.range)))

pub overflow_add-result-2 : goal.overflow_add-result-2
overflow_add-result-2 c =
    let h = c.args.header.now in let k = c.requires.spread in let s = c.args.spread.now in
    omega (
      arith,
      mul-le c.turn-low.result (length c.args.residuals.now) (2 ^ 64) 128 (omega arith) c.requires.few,
      whole-bound h.factor s.greatest s.total c.args.residuals.now k.most k.whole c.requires.few (omega (arith, greatest-number (turned h.offset) h.factor s.greatest c.args.residuals.now k.most c.requires.some c.requires.range)),
    )

pub returns : goal.returns
returns c =
    let h = c.args.header.now in let k = c.requires.spread in let s = c.args.spread.now in let rs = c.args.residuals.now in
    rw c.turn-low.ensures (plain-span (turned h.offset) h.factor s.greatest s.total rs c.requires.some c.requires.zero k.most k.whole)
