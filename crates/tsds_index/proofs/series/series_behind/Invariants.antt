use Rattle.std.proofs.Common.{◌-◌}
use Rattle.std.specs.Option.{option_copied}
use Rattle.index_segment.specs.Directory.{keys_of}
use Rattle.tsds_index.proofs.Keys.{IsCut}
use Rattle.tsds_index.proofs.series.series_behind.Given as goal

abbrev pub invariant-loop-low : goal.invariant-loop-low
invariant-loop-low l = IsCut (option_copied l.before) (keys_of l.segment.rows) l.low l.high

abbrev pub decreases-loop-low : goal.decreases-loop-low
decreases-loop-low l = l.high - l.low
