use Rattle.std.proofs.Common.{rules, arith, ◌≡◌, ◌∙◌}
use Rattle.std.specs.Prelude.{ℤ, ◌+ℤ◌, FitsSigned}
use Rattle.std.specs.Int.{w64, w128, int_min, int_max}
use Rattle.std.proofs.lemmas.Int.{to_z-of_z, fits_signed_from_abs}
use Rattle.fold_law.specs.GaugeLaws.{unsigned_abs-add}
use Rattle.fold_law.specs.Gauges.{join_parts}
use Rattle.fold_law.specs.declared.measures.Parts.{Parts}
use Rattle.fold_law.proofs.measures.join.Goals as goal

parts_are : (p q : Parts) {min max sum count : ℤ} → min ≡ int_min p.min q.min → max ≡ int_max p.max q.max → sum ≡ p.sum +ℤ q.sum → count ≡ p.count +ℤ q.count → record { min = min; max = max; sum = sum; count = count } ≡ join_parts p q
parts_are p q a b d e = cc

pub returns : goal.returns
returns c =
    let a : FitsSigned w64 c.args.earlier.min = search rules in
    let b : FitsSigned w64 c.args.later.min = search rules in
    let d : FitsSigned w64 c.args.earlier.max = search rules in
    let e : FitsSigned w64 c.args.later.max = search rules in
    let f : FitsSigned w128 c.args.earlier.sum = search rules in
    let g : FitsSigned w128 c.args.later.sum = search rules in
    let h : FitsSigned w128 c.args.earlier.count = search rules in
    let i : FitsSigned w128 c.args.later.count = search rules in
    let j : FitsSigned w64 c.min.result = search rules in
    let k : FitsSigned w64 c.max.result = search rules in
    let sum_fits : FitsSigned w128 (c.args.earlier.sum +ℤ c.args.later.sum) = fits_signed_from_abs w128 _ (omega (arith, unsigned_abs-add c.args.earlier.sum c.args.later.sum, c.requires)) in
    let count_fits : FitsSigned w128 (c.args.earlier.count +ℤ c.args.later.count) = fits_signed_from_abs w128 _ (omega (arith, unsigned_abs-add c.args.earlier.count c.args.later.count, c.requires)) in
    let least : c.min.result ≡ int_min c.args.earlier.min c.args.later.min = simp to_z-of_z at c.min.ensures.value in
    let greatest : c.max.result ≡ int_max c.args.earlier.max c.args.later.max = simp to_z-of_z at c.max.ensures.value in
    parts_are c.args.earlier c.args.later (to_z-of_z w64 c.min.result j ∙ least) (to_z-of_z w64 c.max.result k ∙ greatest) (simp to_z-of_z) (simp to_z-of_z)
