-- The fold that keeps the last value that is present.
use Rattle.std.specs.Prelude.{ℕ, Some, None, Option}
use Rattle.fold_law.specs.declared.pairs.Last.{Last}

-- the later value, or the earlier one where the later is absent
abbrev pub last_present : {V : Type 0} → Option V → Option V → Option V
last_present earlier None = earlier
last_present earlier (Some v) = Some v

module _ {V : Type 0} where
  abbrev pub no_last : Last V
  no_last = record { 0 = None }

  abbrev pub last_of_one : Option V → Last V
  last_of_one v = record { 0 = v }

  abbrev pub merge_lasts : Last V → Last V → Last V
  merge_lasts a b = record { 0 = last_present a.0 b.0 }

  abbrev pub reach_of_last : Last V → ℕ
  reach_of_last a = 0
