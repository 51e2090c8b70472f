use Rattle.std.proofs.Common.{◌≡◌, take, drop, map, length}
use Rattle.std.specs.Prelude.{All, FitsSigned}
use Rattle.std.specs.Int.{w64}
use Rattle.column_pack.specs.Parts.{numbers_of}
use Rattle.column_pack.specs.Block.{place}
use Rattle.column_pack.specs.declared.parts.Kind.TheVariants.{Plain}
use Rattle.column_pack.proofs.values.plain_values.Given as goal

abbrev pub invariant-loop-i : goal.invariant-loop-i
invariant-loop-i l = record {
  values : map (place Plain) (take l.i l.into) ≡ numbers_of l.low l.factor (take l.i l.residuals);
  signed : All (FitsSigned w64) (take l.i l.into);
  long : length l.into ≡ 128;
  behind : drop l.i l.into ≡ drop l.i l.fn.into;
}
