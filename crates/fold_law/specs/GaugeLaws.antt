-- Sizes of numbers, and the laws of the folds of gauges and of counts.
use Rattle.std.specs.Prelude.{◌≡◌, ℕ, ℤ, pos, negsuc, ◌≤ℤ◌, ◌+ℤ◌, ◌+◌, ◌≤◌, unsigned_abs, Some, None, Option}
use Rattle.std.specs.Int.{int_min, int_max}
use Rattle.std.proofs.Common.{ap, refl, arith}
use Rattle.std.proofs.lemmas.Int.{ints, clamps}
use Rattle.fold_law.specs.declared.measures.Parts.{Parts}
use Rattle.fold_law.specs.declared.measures.Gauge.{Gauge}
use Rattle.fold_law.specs.Laws.{FoldLaws}
use Rattle.fold_law.specs.Gauges.{join_parts, join_present_parts, reach_of_parts, no_gauge, merge_gauges, reach_of_gauge, no_count, count_of_one, merge_counts, reach_of_count}

-- a number lies between its size and the negative of it
pub abs_above : (a : ℤ) → a ≤ℤ pos (unsigned_abs a)
abs_above (pos n) = omega (arith, ints)
abs_above (negsuc n) = omega (arith, ints)

pub abs_below : (a : ℤ) → pos 0 ≤ℤ (a +ℤ pos (unsigned_abs a))
abs_below (pos n) = omega (arith, ints)
abs_below (negsuc n) = omega (arith, ints)

-- what lies between n and its negative has at most that size
pub within_abs : (a : ℤ) (n : ℕ) → a ≤ℤ pos n → pos 0 ≤ℤ (a +ℤ pos n) → unsigned_abs a ≤ n
within_abs (pos m) n above below = omega (arith, ints)
within_abs (negsuc m) n above below = omega (arith, ints)

-- a sum is at most as far from 0 as its parts together
pub unsigned_abs-add : (a b : ℤ) → unsigned_abs (a +ℤ b) ≤ unsigned_abs a + unsigned_abs b
unsigned_abs-add a b = within_abs (a +ℤ b) (unsigned_abs a + unsigned_abs b) (omega (arith, ints, abs_above a, abs_above b)) (omega (arith, ints, abs_below a, abs_below b))

int_min_assoc : (a b c : ℤ) → int_min (int_min a b) c ≡ int_min a (int_min b c)
int_min_assoc a b c = omega (arith, ints, clamps)

int_max_assoc : (a b c : ℤ) → int_max (int_max a b) c ≡ int_max a (int_max b c)
int_max_assoc a b c = omega (arith, ints, clamps)

plus_assoc : (a b c : ℤ) → (a +ℤ b) +ℤ c ≡ a +ℤ (b +ℤ c)
plus_assoc a b c = omega (arith, ints)

join_parts_assoc : (p q r : Parts) → join_parts (join_parts p q) r ≡ join_parts p (join_parts q r)
join_parts_assoc p q r =
    rw (int_min_assoc p.min q.min r.min, int_max_assoc p.max q.max r.max, plus_assoc p.sum q.sum r.sum, plus_assoc p.count q.count r.count)

join_present_parts_assoc : (p q r : Option Parts) → join_present_parts (join_present_parts p q) r ≡ join_present_parts p (join_present_parts q r)
join_present_parts_assoc None q r = refl
join_present_parts_assoc (Some p) None r = refl
join_present_parts_assoc (Some p) (Some q) None = refl
join_present_parts_assoc (Some p) (Some q) (Some r) = ap Some (join_parts_assoc p q r)

join_present_parts_right : (p : Option Parts) → join_present_parts p None ≡ p
join_present_parts_right None = refl
join_present_parts_right (Some p) = refl

reach-join : (p q : Option Parts) → reach_of_parts (join_present_parts p q) ≤ reach_of_parts p + reach_of_parts q
reach-join None q = omega arith
reach-join (Some p) None = omega arith
reach-join (Some p) (Some q) = omega (arith, unsigned_abs-add p.sum q.sum, unsigned_abs-add p.count q.count)

gauge_of : Option Parts → Gauge
gauge_of p = record { 0 = p }

pub gauge_laws : FoldLaws no_gauge merge_gauges reach_of_gauge
unfolding gauge_of
gauge_laws = record {
  none_left = λ a. refl;
  none_right = λ a. ap gauge_of (join_present_parts_right a.0);
  assoc = λ a b c. ap gauge_of (join_present_parts_assoc a.0 b.0 c.0);
  reach_none = refl;
  reach_merge = λ a b. reach-join a.0 b.0;
}

pub count_laws : FoldLaws no_count merge_counts reach_of_count
count_laws = record {
  none_left = λ a. ap count_of_one (omega arith);
  none_right = λ a. ap count_of_one (omega arith);
  assoc = λ a b c. ap count_of_one (omega arith);
  reach_none = refl;
  reach_merge = λ a b. omega arith;
}
