-- Which interval a fold may have after another.
use Rattle.std.specs.Prelude.{ℕ, pos, ◌%◌, ◌==◌, nat_le, Option, Some, None, if◌then◌else◌}
use Rattle.time_text.specs.declared.intervals.Interval.{Interval}
use Rattle.time_text.specs.Interval.{ms_of}
use Rattle.downsample_fold.specs.declared.intervals.IntervalError.{IntervalError}
use Rattle.downsample_fold.specs.declared.intervals.IntervalError.TheVariants.{NotGreater, NotMultiple}

-- what keeps rows that were folded by `had` milliseconds from a fold by `asked`: it must be greater, and a whole multiple
abbrev pub fault_after : ℕ → ℕ → Option IntervalError
fault_after had asked =
    if nat_le asked had then Some (NotGreater (pos had) (pos asked))
    else (if (asked % had) == 0 then None else Some (NotMultiple (pos had) (pos asked)))

-- rows that weren't folded take any interval
abbrev pub interval_fault : Option Interval → Interval → Option IntervalError
interval_fault None asked = None
interval_fault (Some had) asked = fault_after (ms_of had) (ms_of asked)
