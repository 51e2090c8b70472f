-- The fold of a counter: its first and last value, and by how much it rose on the way.
use Rattle.std.specs.Prelude.{ℕ, ℤ, pos, ◌+ℤ◌, ◌-ℤ◌, ◌+◌, ◌-◌, ◌^◌, unsigned_abs, int_lt, if◌then◌else◌, Some, None, Option}
use Rattle.std.specs.Int.{int_max}
use Rattle.fold_law.specs.declared.counters.Rise.{Rise}
use Rattle.fold_law.specs.declared.counters.Rising.{Rising}

-- how much a counter rose from one value to the next: a fall means that it began again at 0
abbrev pub climb_of : ℤ → ℤ → ℤ
climb_of a b = if int_lt b a then int_max b (pos 0) else b -ℤ a

-- the rise over two lists of values, the second later than the first
abbrev pub join_rises : Rise → Rise → Rise
join_rises p q = record {
  first = p.first;
  last = q.last;
  increase = (p.increase +ℤ climb_of p.last q.first) +ℤ q.increase;
}

-- the same where a side may be without a value
abbrev pub join_present_rises : Option Rise → Option Rise → Option Rise
join_present_rises None q = q
join_present_rises (Some p) None = Some p
join_present_rises (Some p) (Some q) = Some (join_rises p q)

-- the rise of one value
abbrev pub rise_of_value : ℤ → Rise
rise_of_value v = record { first = v; last = v; increase = pos 0 }

abbrev pub rise_of_present : Option ℤ → Option Rise
rise_of_present None = None
rise_of_present (Some v) = Some (rise_of_value v)

abbrev pub no_rise : Rising
no_rise = record { 0 = None }

abbrev pub rising_of_one : Option ℤ → Rising
rising_of_one v = record { 0 = rise_of_present v }

abbrev pub merge_risings : Rising → Rising → Rising
merge_risings a b = record { 0 = join_present_rises a.0 b.0 }

-- by how much a number passes the signed 64-bit range: 0 for each value that a counter can have
abbrev pub beyond_64_bits : ℤ → ℕ
beyond_64_bits v = unsigned_abs v - 2 ^ 63

-- the size of the increase and 2^64, which is more than one climb. What goes beyond 64 bits counts too, so that the law below
-- holds of all numbers; in the program it is nothing
abbrev pub reach_of_rise : Option Rise → ℕ
reach_of_rise None = 0
reach_of_rise (Some p) = unsigned_abs p.increase + 2 ^ 64 + (beyond_64_bits p.first + beyond_64_bits p.last)

abbrev pub reach_of_rising : Rising → ℕ
reach_of_rising a = reach_of_rise a.0
