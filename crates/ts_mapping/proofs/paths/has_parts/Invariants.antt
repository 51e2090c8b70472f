use Rattle.std.proofs.Common.{◌≡◌, true, drop}
use Rattle.ts_mapping.specs.Paths.{has_parts}
use Rattle.ts_mapping.proofs.paths.has_parts.Given as goal

abbrev pub invariant-loop-byte : goal.invariant-loop-byte
invariant-loop-byte l = has_parts true l.path ≡ has_parts l.fresh (drop l.byte-index l.path)
