use Rattle.std.proofs.Common.{◌≡◌, ◌+◌, ◌*◌, ◌^◌, ◌<◌, take}
use Rattle.column_pack.specs.Digits.{number}
use Rattle.column_pack.proofs.bits.write_words.Given as goal

abbrev pub invariant-loop-residual : goal.invariant-loop-residual
invariant-loop-residual l = record {
  value : number (2 ^ 64) (take l.count l.words) + (2 ^ 64) ^ l.count * l.pending ≡ number (2 ^ l.width) (take l.residual-index l.residuals);
  bits : 64 * l.count + l.filled ≡ l.residual-index * l.width;
  short : l.pending < 2 ^ l.filled;
  filled : l.filled < 64;
}
