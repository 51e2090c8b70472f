use Rattle.std.proofs.Common.{◌≡◌, ◌+◌, drop}
use Rattle.std.specs.List.{prefix_len}
use Rattle.time_text.specs.Interval.{ms_of}
use Rattle.downsample_fold.specs.Places.{place_of, same_place}
use Rattle.downsample_fold.proofs.runs.run_length.Given as goal

abbrev pub invariant-loop-count : goal.invariant-loop-count
invariant-loop-count l =
    l.count + prefix_len (λ row. same_place (place_of (ms_of l.by) row) (place_of (ms_of l.by) l.first)) (drop l.count l.rows)
    ≡ prefix_len (λ row. same_place (place_of (ms_of l.by) row) (place_of (ms_of l.by) l.first)) l.rows
