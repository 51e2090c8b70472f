use Rattle.std.proofs.Common.{◌≡◌, ◌≤◌, ◌++◌, length, drop}
use Rattle.index_segment.specs.Merging.{firsts, seconds, sides, sides_of_series}
use Rattle.index_segment.proofs.turns.turns_of.Given as goal

abbrev pub invariant-loop-rows : goal.invariant-loop-rows
invariant-loop-rows l = record {
  whole : sides l.turns.items ++ sides_of_series (drop l.rows-index l.series) l.left l.right ≡ sides_of_series l.series l.fn.first l.fn.second;
  first : firsts (drop l.rows-index l.series) ≤ length l.left;
  second : seconds (drop l.rows-index l.series) ≤ length l.right;
}
