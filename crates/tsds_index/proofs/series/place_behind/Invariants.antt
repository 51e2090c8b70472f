use Rattle.std.proofs.Common.{◌-◌}
use Rattle.std.specs.Option.{option_copied}
use Rattle.index_segment.specs.Directory.{row_keys}
use Rattle.tsds_index.proofs.Keys.{IsCut}
use Rattle.tsds_index.proofs.series.place_behind.Given as goal

abbrev pub invariant-loop-low : goal.invariant-loop-low
invariant-loop-low l = IsCut (option_copied l.before) (row_keys l.rows) l.low l.high

abbrev pub decreases-loop-low : goal.decreases-loop-low
decreases-loop-low l = l.high - l.low
