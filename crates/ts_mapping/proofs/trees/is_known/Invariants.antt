use Rattle.std.proofs.Common.{◌≡◌, drop}
use Rattle.std.specs.Prelude.{map}
use Rattle.ts_mapping.specs.Paths.{is_among}
use Rattle.ts_mapping.proofs.trees.is_known.Given as goal

abbrev pub invariant-loop-other : goal.invariant-loop-other
invariant-loop-other l = is_among l.name (map (λ n. n.now) l.known) ≡ is_among l.name (map (λ n. n.now) (drop l.other-index l.known))
