use Rattle.std.proofs.Common.{◌≡◌}
use Rattle.tsds_bench.proofs.indices.doubles.Given as goal

abbrev pub invariant-loop-turn : goal.invariant-loop-turn
invariant-loop-turn l = l.index.schema ≡ l.schema
