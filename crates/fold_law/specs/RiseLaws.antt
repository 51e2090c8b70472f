-- The laws of the fold of a counter.
use Rattle.std.specs.Prelude.{◌≡◌, ℕ, ℤ, pos, negsuc, ◌+ℤ◌, ◌-ℤ◌, ◌+◌, ◌^◌, ◌≤◌, unsigned_abs, FitsSigned, int_lt, if◌then◌else◌, Bool, true, false, Some, None, Option}
use Rattle.std.specs.Int.{int_max, w64}
use Rattle.std.proofs.Common.{ap, refl, arith}
use Rattle.std.proofs.lemmas.Int.{ints, clamps}
use Rattle.fold_law.specs.declared.counters.Rise.{Rise}
use Rattle.fold_law.specs.declared.counters.Rising.{Rising}
use Rattle.fold_law.specs.Laws.{FoldLaws}
use Rattle.fold_law.specs.GaugeLaws.{unsigned_abs-add, within_abs, abs_above, abs_below}
use Rattle.fold_law.specs.Rises.{climb_of, join_rises, join_present_rises, no_rise, merge_risings, beyond_64_bits, reach_of_rise, reach_of_rising}

abs_in_range : (v : ℤ) → FitsSigned w64 v → beyond_64_bits v ≡ 0
abs_in_range (pos n) fits = omega (arith, ints, fits)
abs_in_range (negsuc n) fits = omega (arith, ints, fits)

-- the size of the increase and 2^64, for each rise of the program
pub reach_of_rise_in_range : (p : Rise) → FitsSigned w64 p.first → FitsSigned w64 p.last → reach_of_rise (Some p) ≡ unsigned_abs p.increase + 2 ^ 64
reach_of_rise_in_range p first last = omega (arith, ints, abs_in_range p.first first, abs_in_range p.last last)

-- no climb is longer than its two ends
pub unsigned_abs-climb_of : (a b : ℤ) → unsigned_abs (climb_of a b) ≤ unsigned_abs a + unsigned_abs b
unsigned_abs-climb_of a b = climb_cases (int_lt b a) refl
  where
    climb_cases : (fell : Bool) → int_lt b a ≡ fell → unsigned_abs (if fell then int_max b (pos 0) else b -ℤ a) ≤ unsigned_abs a + unsigned_abs b
    climb_cases true is = within_abs (int_max b (pos 0)) (unsigned_abs a + unsigned_abs b) (omega (arith, ints, clamps, abs_above b)) (omega (arith, ints, clamps, abs_below b))
    climb_cases false is = within_abs (b -ℤ a) (unsigned_abs a + unsigned_abs b) (omega (arith, ints, abs_above b, abs_below a)) (omega (arith, ints, abs_below b, abs_above a))

increase_assoc : (a b c d e : ℤ) → (((a +ℤ b) +ℤ c) +ℤ d) +ℤ e ≡ (a +ℤ b) +ℤ ((c +ℤ d) +ℤ e)
increase_assoc a b c d e = omega (arith, ints)

abbrev rise_from : ℤ → ℤ → ℤ → Rise
rise_from first last increase = record { first = first; last = last; increase = increase }

join_rises_assoc : (p q r : Rise) → join_rises (join_rises p q) r ≡ join_rises p (join_rises q r)
join_rises_assoc p q r = ap (λ increase. rise_from p.first r.last increase) (increase_assoc p.increase (climb_of p.last q.first) q.increase (climb_of q.last r.first) r.increase)

join_present_rises_assoc : (p q r : Option Rise) → join_present_rises (join_present_rises p q) r ≡ join_present_rises p (join_present_rises q r)
join_present_rises_assoc None q r = refl
join_present_rises_assoc (Some p) None r = refl
join_present_rises_assoc (Some p) (Some q) None = refl
join_present_rises_assoc (Some p) (Some q) (Some r) = ap Some (join_rises_assoc p q r)

join_present_rises_right : (p : Option Rise) → join_present_rises p None ≡ p
join_present_rises_right None = refl
join_present_rises_right (Some p) = refl

reach-join : (p q : Option Rise) → reach_of_rise (join_present_rises p q) ≤ reach_of_rise p + reach_of_rise q
reach-join None q = omega arith
reach-join (Some p) None = omega arith
reach-join (Some p) (Some q) =
    omega (arith, unsigned_abs-add (p.increase +ℤ climb_of p.last q.first) q.increase, unsigned_abs-add p.increase (climb_of p.last q.first), unsigned_abs-climb_of p.last q.first)

rising_of : Option Rise → Rising
rising_of p = record { 0 = p }

pub rising_laws : FoldLaws no_rise merge_risings reach_of_rising
unfolding rising_of
rising_laws = record {
  none_left = λ a. refl;
  none_right = λ a. ap rising_of (join_present_rises_right a.0);
  assoc = λ a b c. ap rising_of (join_present_rises_assoc a.0 b.0 c.0);
  reach_none = refl;
  reach_merge = λ a b. reach-join a.0 b.0;
}
