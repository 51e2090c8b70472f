use Rattle.std.proofs.Common.{◌≡◌, take}
use Rattle.index_segment.specs.Spelling.{times_of}
use Rattle.index_segment.proofs.build.pack_times.Given as goal

abbrev pub invariant-loop-row : goal.invariant-loop-row
invariant-loop-row l = l.times.items ≡ times_of (take l.row-index l.rows)
