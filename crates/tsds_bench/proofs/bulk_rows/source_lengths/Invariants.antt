use Rattle.std.proofs.Common.{length}
use Rattle.bulk_json.specs.Lent.{HasRoom}
use Rattle.tsds_bench.proofs.bulk_rows.source_lengths.Given as goal

-- lines can be counted to the end
abbrev pub invariant-loop-lengths : goal.invariant-loop-lengths
invariant-loop-lengths l = HasRoom l.lines

abbrev pub decreases-loop-lengths : goal.decreases-loop-lengths
decreases-loop-lengths l = length l.lines.rest.now
