use Rattle.std.proofs.Common.{◌≡◌, ◌+◌, ◌-◌, ◌≤◌, ◌++◌, length}
use Rattle.index_segment.specs.Joining.{keys_of_joints, rows_of_joints, series_left}
use Rattle.index_segment.specs.Merging.{joined_series, listed}
use Rattle.index_segment.proofs.shares.join_series.Given as goal

abbrev pub invariant-loop-from : goal.invariant-loop-from
invariant-loop-from l =
    let first = listed l.first.keys.now l.first.sizes.now in
    let second = listed l.second.keys.now l.second.sizes.now in
    record {
      first_within : l.from.first ≤ length l.first.keys.now;
      second_within : l.from.second ≤ length l.second.keys.now;
      keys : l.joined.keys ++ keys_of_joints (series_left first second l.from) ≡ keys_of_joints (joined_series first second);
      rows : l.joined.rows ++ rows_of_joints (series_left first second l.from) ≡ rows_of_joints (joined_series first second);
    }

abbrev pub decreases-loop-from : goal.decreases-loop-from
decreases-loop-from l = length l.first.keys.now + length l.second.keys.now - (l.from.first + l.from.second)
