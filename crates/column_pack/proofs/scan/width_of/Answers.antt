use Rattle.std.proofs.Common.{arith}
use Rattle.column_pack.proofs.Divisors.{IsWidth-of}
use Rattle.column_pack.proofs.scan.width_of.Goals as goal

pub returns-clause-width : goal.returns-clause-width
returns-clause-width c = IsWidth-of c.args.number (omega arith)
