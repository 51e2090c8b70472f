use Rattle.std.proofs.Common.{◌≡◌, ◌≤◌, ◌+◌, ◌*◌, ◌^◌, ◌<◌, drop}
use Rattle.std.specs.List.{sum}
use Rattle.column_pack.specs.Parts.{numbers_of}
use Rattle.column_pack.specs.Block.{walk}
use Rattle.column_pack.proofs.values.walk_total.Given as goal

abbrev pub invariant-loop-residual : goal.invariant-loop-residual
invariant-loop-residual l = record {
  value : l.total + sum (walk l.at (numbers_of l.header.offset l.header.factor (drop l.residual-index l.residuals))) ≡ l.at + sum (walk l.start (numbers_of l.header.offset l.header.factor l.residuals));
  range : l.at + sum (numbers_of l.header.offset l.header.factor (drop l.residual-index l.residuals)) < 2 ^ 64;
  bound : l.total ≤ (l.residual-index + 1) * 2 ^ 64;
}
