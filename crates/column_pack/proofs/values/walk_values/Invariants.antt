use Rattle.std.proofs.Common.{◌≡◌, ◌+◌, ◌^◌, ◌<◌, ◌++◌, take, drop, map, length}
use Rattle.std.specs.List.{sum}
use Rattle.std.specs.Prelude.{All, FitsSigned}
use Rattle.std.specs.Int.{w64}
use Rattle.column_pack.specs.Parts.{numbers_of}
use Rattle.column_pack.specs.Block.{place, walk}
use Rattle.column_pack.proofs.values.walk_values.Given as goal

abbrev pub invariant-loop-i : goal.invariant-loop-i
invariant-loop-i l = record {
  values : map (place l.header.kind) (take l.i l.into) ++ walk l.at (numbers_of l.header.offset l.header.factor (drop l.i l.residuals)) ≡ walk l.start (numbers_of l.header.offset l.header.factor l.residuals);
  range : l.at + sum (numbers_of l.header.offset l.header.factor (drop l.i l.residuals)) < 2 ^ 64;
  signed : All (FitsSigned w64) (take l.i l.into);
  long : length l.into ≡ 128;
  behind : drop l.i l.into ≡ drop l.i l.fn.into;
}
