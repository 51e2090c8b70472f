use Rattle.std.proofs.Common.{◌^◌, arith}
use Rattle.column_pack.specs.Digits.{number}
use Rattle.column_pack.specs.Laws.Words.{residual-read}
use Rattle.column_pack.proofs.bits.read_residuals.Goals as goal

pub loop-i-preserved : goal.loop-i-preserved
loop-i-preserved c =
    let l = c.loop-i in
    residual-read c.args.width l.i (number (2 ^ 64) c.args.words.now) c.number_at.result l.residuals (omega arith) l.invariant c.number_at.ensures
