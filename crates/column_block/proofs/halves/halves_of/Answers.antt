use Rattle.std.proofs.Common.{◌∙◌, ap}
use Rattle.std.specs.Prelude.{unsigned_abs, pos, ◌^◌}
use Rattle.std.specs.Int.{w64, w128, cast_signed, int_rem_euclid}
use Rattle.std.proofs.lemmas.Int.{to_z-of_z}
use Rattle.column_block.proofs.halves.halves_of.Goals as goal

pub returns-clause-low : goal.returns-clause-low
returns-clause-low c =
    to_z-of_z w64 c.cast_signed.result (record { sfits = c.cast_signed.type_inv }) ∙ c.cast_signed.ensures
    ∙ ap (λ z. cast_signed w64 (unsigned_abs z)) (to_z-of_z w128 c.rem_euclid-low.result (record { sfits = c.rem_euclid-low.type_inv }) ∙ c.rem_euclid-low.ensures.value)
    ∙ ap (λ z. cast_signed w64 (unsigned_abs (int_rem_euclid z (pos (2 ^ 64))))) (to_z-of_z w128 c.args.number c.ranges.number)
