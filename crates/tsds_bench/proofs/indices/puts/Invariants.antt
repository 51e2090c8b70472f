use Rattle.std.proofs.Common.{◌≡◌}
use Rattle.tsds_bench.proofs.indices.puts.Given as goal

abbrev pub invariant-loop : goal.invariant-loop
invariant-loop l = l.index.schema ≡ l.initial.index.schema
