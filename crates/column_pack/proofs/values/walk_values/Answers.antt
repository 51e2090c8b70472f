use Rattle.std.proofs.Common.{◌≡◌, ℤ, ◌^◌, length, arith, ap, ◌∙◌}
use Rattle.std.specs.Prelude.{FitsSigned}
use Rattle.std.specs.Int.{w64, cast_signed, cast_unsigned}
use Rattle.std.proofs.lemmas.Int.{to_z-of_z}
use Rattle.std.proofs.lemmas.List.{length-set}
use Rattle.column_pack.specs.Block.{walk, place}
use Rattle.column_pack.specs.Parts.{numbers_of}
use Rattle.column_pack.proofs.Unpacked.{walked-more, walked-last, range-more, behind-more, signed-more}
use Rattle.column_pack.proofs.values.walk_values.Goals as goal

pub loop-i-preserved : goal.loop-i-preserved
loop-i-preserved c =
    let l = c.loop-i in
    let h = c.args.header.now in
    let rs = c.args.residuals.now in
    let v : ℤ = cast_signed w64 (cast_unsigned w64 c.value_at.result) in
    let e : v ≡ c.value_at.result = to_z-of_z w64 c.value_at.result (record { sfits = c.value_at.type_inv }) in
    let f : FitsSigned w64 v = rw e (record { sfits = c.value_at.type_inv }) in
    record {
      values = walked-more h.kind l.into l.i l.at h.offset h.factor rs (walk c.args.start (numbers_of h.offset h.factor rs)) v (omega arith) (omega arith) (ap (place h.kind) e ∙ c.value_at.ensures) l.invariant.values;
      range = range-more l.at h.offset h.factor (2 ^ 64) l.i rs (omega arith) l.invariant.range;
      signed = signed-more l.into l.i v (omega arith) l.invariant.signed f;
      long = length-set l.into l.i v ∙ l.invariant.long;
      behind = behind-more l.into c.args.into.now l.i v l.invariant.behind;
    }

pub returns-clause-values : goal.returns-clause-values
returns-clause-values c =
    let l = c.loop-i in
    let h = c.args.header.now in
    let rs = c.args.residuals.now in
    let v : ℤ = cast_signed w64 (cast_unsigned w64 c.value_at-2.result) in
    let e : v ≡ c.value_at-2.result = to_z-of_z w64 c.value_at-2.result (record { sfits = c.value_at-2.type_inv }) in
    let n : l.i ≡ length rs = omega arith in
    walked-last h.kind l.into (length rs) l.at h.offset h.factor rs (walk c.args.start (numbers_of h.offset h.factor rs)) v (omega arith) (omega arith) (ap (place h.kind) e ∙ c.value_at-2.ensures) (rw n at l.invariant.values)

pub returns-clause-signed : goal.returns-clause-signed
returns-clause-signed c =
    let l = c.loop-i in
    let rs = c.args.residuals.now in
    let v : ℤ = cast_signed w64 (cast_unsigned w64 c.value_at-2.result) in
    let e : v ≡ c.value_at-2.result = to_z-of_z w64 c.value_at-2.result (record { sfits = c.value_at-2.type_inv }) in
    let f : FitsSigned w64 v = rw e (record { sfits = c.value_at-2.type_inv }) in
    let n : l.i ≡ length rs = omega arith in
    signed-more l.into (length rs) v (omega arith) (rw n at l.invariant.signed) f
