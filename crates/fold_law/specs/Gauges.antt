-- The fold of a gauge: least, greatest, sum and number of its values.
use Rattle.std.specs.Prelude.{ℕ, ◌+ℤ◌, ◌+◌, max, unsigned_abs, Some, None, Option}
use Rattle.std.specs.Int.{int_min, int_max}
use Rattle.fold_law.specs.declared.measures.Parts.{Parts}
use Rattle.fold_law.specs.declared.measures.Gauge.{Gauge}
use Rattle.fold_law.specs.declared.measures.Count.{Count}

-- the parts of the values of two lists together
abbrev pub join_parts : Parts → Parts → Parts
join_parts p q = record {
  min = int_min p.min q.min;
  max = int_max p.max q.max;
  sum = p.sum +ℤ q.sum;
  count = p.count +ℤ q.count;
}

-- the same where a side may be without a value
abbrev pub join_present_parts : Option Parts → Option Parts → Option Parts
join_present_parts None q = q
join_present_parts (Some p) None = Some p
join_present_parts (Some p) (Some q) = Some (join_parts p q)

abbrev pub no_gauge : Gauge
no_gauge = record { 0 = None }

abbrev pub gauge_of_one : Parts → Gauge
gauge_of_one p = record { 0 = Some p }

abbrev pub merge_gauges : Gauge → Gauge → Gauge
merge_gauges a b = record { 0 = join_present_parts a.0 b.0 }

-- the greater of the sizes of sum and count
abbrev pub reach_of_parts : Option Parts → ℕ
reach_of_parts None = 0
reach_of_parts (Some p) = max (unsigned_abs p.sum) (unsigned_abs p.count)

abbrev pub reach_of_gauge : Gauge → ℕ
reach_of_gauge a = reach_of_parts a.0

-- ---- the number of documents

abbrev pub no_count : Count
no_count = record { 0 = 0 }

abbrev pub count_of_one : ℕ → Count
count_of_one n = record { 0 = n }

abbrev pub merge_counts : Count → Count → Count
merge_counts a b = record { 0 = a.0 + b.0 }

abbrev pub reach_of_count : Count → ℕ
reach_of_count a = a.0
