use Rattle.std.proofs.Common.{rules, arith, ◌≡◌, ◌≤◌, ◌+◌, ap}
use Rattle.std.specs.Prelude.{ℤ, ◌+ℤ◌, unsigned_abs, FitsSigned}
use Rattle.std.specs.Int.{w64, w128}
use Rattle.std.proofs.lemmas.Int.{to_z-of_z, fits_signed_from_abs}
use Rattle.fold_law.specs.GaugeLaws.{unsigned_abs-add}
use Rattle.fold_law.specs.Rises.{climb_of, join_rises}
use Rattle.fold_law.specs.RiseLaws.{unsigned_abs-climb_of}
use Rattle.fold_law.specs.declared.counters.Rise.{Rise}
use Rattle.fold_law.proofs.counters.join.Goals as goal

rise_is : (p q : Rise) {first last increase : ℤ} → first ≡ p.first → last ≡ q.last → increase ≡ (p.increase +ℤ climb_of p.last q.first) +ℤ q.increase → record { first = first; last = last; increase = increase } ≡ join_rises p q
rise_is p q a b d = cc

pub overflow_add-result-2 : goal.overflow_add-result-2
overflow_add-result-2 c =
    let before : FitsSigned w128 c.args.earlier.increase = search rules in
    let after : FitsSigned w128 c.args.later.increase = search rules in
    let between : FitsSigned w128 c.climb.result = search rules in
    let last : FitsSigned w64 c.args.earlier.last = search rules in
    let first : FitsSigned w64 c.args.later.first = search rules in
    let climbed : c.climb.result ≡ climb_of c.args.earlier.last c.args.later.first = simp to_z-of_z at c.climb.ensures in
    let near : unsigned_abs c.climb.result ≤ unsigned_abs c.args.earlier.last + unsigned_abs c.args.later.first = rw climbed (unsigned_abs-climb_of c.args.earlier.last c.args.later.first) in
    let half = unsigned_abs-add c.args.earlier.increase c.climb.result in
    let whole = unsigned_abs-add (c.args.earlier.increase +ℤ c.climb.result) c.args.later.increase in
    let half_fits : FitsSigned w128 (c.args.earlier.increase +ℤ c.climb.result) = fits_signed_from_abs w128 _ (omega (arith, half, near, c.requires)) in
    let whole_fits : FitsSigned w128 ((c.args.earlier.increase +ℤ c.climb.result) +ℤ c.args.later.increase) = fits_signed_from_abs w128 _ (omega (arith, half, whole, near, c.requires)) in
    simp to_z-of_z whole_fits

pub returns : goal.returns
returns c =
    let before : FitsSigned w128 c.args.earlier.increase = search rules in
    let after : FitsSigned w128 c.args.later.increase = search rules in
    let between : FitsSigned w128 c.climb.result = search rules in
    let start : FitsSigned w64 c.args.earlier.first = search rules in
    let stop : FitsSigned w64 c.args.later.last = search rules in
    let last : FitsSigned w64 c.args.earlier.last = search rules in
    let first : FitsSigned w64 c.args.later.first = search rules in
    let climbed : c.climb.result ≡ climb_of c.args.earlier.last c.args.later.first = simp to_z-of_z at c.climb.ensures in
    let near : unsigned_abs c.climb.result ≤ unsigned_abs c.args.earlier.last + unsigned_abs c.args.later.first = rw climbed (unsigned_abs-climb_of c.args.earlier.last c.args.later.first) in
    let half = unsigned_abs-add c.args.earlier.increase c.climb.result in
    let whole = unsigned_abs-add (c.args.earlier.increase +ℤ c.climb.result) c.args.later.increase in
    let half_fits : FitsSigned w128 (c.args.earlier.increase +ℤ c.climb.result) = fits_signed_from_abs w128 _ (omega (arith, half, near, c.requires)) in
    let whole_fits : FitsSigned w128 ((c.args.earlier.increase +ℤ c.climb.result) +ℤ c.args.later.increase) = fits_signed_from_abs w128 _ (omega (arith, half, whole, near, c.requires)) in
    rise_is c.args.earlier c.args.later (to_z-of_z w64 c.args.earlier.first start) (to_z-of_z w64 c.args.later.last stop) (simp to_z-of_z (ap (λ between. (c.args.earlier.increase +ℤ between) +ℤ c.args.later.increase) climbed))
