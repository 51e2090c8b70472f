use Rattle.std.proofs.Common.{◌≡◌}
use Rattle.tsds_bench.proofs.indices.filled.Given as goal

abbrev pub invariant-loop-place : goal.invariant-loop-place
invariant-loop-place l = l.index.schema ≡ l.schema
