use Rattle.std.proofs.Common.{◌≡◌, ℤ, ◌+◌, ◌*◌, ◌^◌, ◌++◌, ◌∷◌, [], get_or, take, map, arith, ap, ◌∙◌, sym}
use Rattle.std.specs.Prelude.{FitsSigned}
use Rattle.std.specs.Int.{w64, cast_signed, cast_unsigned}
use Rattle.std.proofs.lemmas.Int.{to_z-of_z}
use Rattle.std.proofs.lemmas.List.{length-set}
use Rattle.column_pack.specs.Block.{place}
use Rattle.column_pack.specs.declared.parts.Kind.TheVariants.{Plain}
use Rattle.column_pack.proofs.Unpacked.{number-lt, numbers-more, placed-more, behind-more, signed-more}
use Rattle.column_pack.proofs.values.plain_values.Goals as goal

pub overflow_mul-factor : goal.overflow_mul-factor
overflow_mul-factor c = omega (arith, number-lt c.args.low c.args.factor (2 ^ 64) c.args.residuals.now c.loop-i.i (omega arith) c.requires.range)

pub overflow_add-low : goal.overflow_add-low
overflow_add-low c = omega (arith, number-lt c.args.low c.args.factor (2 ^ 64) c.args.residuals.now c.loop-i.i (omega arith) c.requires.range)

pub loop-i-preserved : goal.loop-i-preserved
loop-i-preserved c =
    let l = c.loop-i in
    let rs = c.args.residuals.now in
    let v : ℤ = cast_signed w64 (cast_unsigned w64 c.value_at.result) in
    let e : v ≡ c.value_at.result = to_z-of_z w64 c.value_at.result (record { sfits = c.value_at.type_inv }) in
    let f : FitsSigned w64 v = rw e (record { sfits = c.value_at.type_inv }) in
    record {
      values = placed-more Plain l.into l.i v (omega arith) ∙ ap (λ z. map (place Plain) (take l.i l.into) ++ z ∷ []) (ap (place Plain) e ∙ c.value_at.ensures)
          ∙ ap (λ ys. ys ++ (c.args.low + c.args.factor * get_or rs l.i 0) ∷ []) l.invariant.values ∙ sym (numbers-more c.args.low c.args.factor rs l.i (omega arith));
      signed = signed-more l.into l.i v (omega arith) l.invariant.signed f;
      long = length-set l.into l.i v ∙ l.invariant.long;
      behind = behind-more l.into c.args.into.now l.i v l.invariant.behind;
    }
