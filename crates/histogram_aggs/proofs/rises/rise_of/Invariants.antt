use Rattle.std.proofs.Common.{◌≡◌}
use Rattle.std.specs.BTreeMap.{btree_map_len}
use Rattle.fold_law.specs.Rises.{merge_risings}
use Rattle.histogram_aggs.proofs.RiseTotals.{rise_over}
use Rattle.histogram_aggs.proofs.rises.rise_of.Given as goal

-- the rise so far and that of the rest are the rise of all
abbrev pub invariant-loop-rise : goal.invariant-loop-rise
invariant-loop-rise l = merge_risings (record { 0 = l.all }) (rise_over l.series.entries) ≡ rise_over l.initial.series.entries

abbrev pub decreases-loop-rise : goal.decreases-loop-rise
decreases-loop-rise l = btree_map_len l.series
