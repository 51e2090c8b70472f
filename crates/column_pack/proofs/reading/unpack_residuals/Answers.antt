use Rattle.std.proofs.Common.{◌^◌, arith, ap, ◌∙◌, sym}
use Rattle.column_pack.specs.Digits.{number, digits}
use Rattle.column_pack.specs.Laws.Layouts.{zeros-at, take-zeros}
use Rattle.column_pack.proofs.reading.unpack_residuals.Goals as goal

pub read_words-requires-clause-zero : goal.read_words-requires-clause-zero
read_words-requires-clause-zero c = λ k. zeros-at 130 k

pub returns-else-width-ne0 : goal.returns-else-width-ne0
returns-else-width-ne0 c = take-zeros c.args.residuals.now c.args.count (number 256 c.args.stream.now) (omega arith) c.requires.zero ∙ ap (λ w. digits (2 ^ w) c.args.count (number 256 c.args.stream.now)) (sym c.if-width-ne0.false)
