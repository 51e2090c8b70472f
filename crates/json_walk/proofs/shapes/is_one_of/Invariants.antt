use Rattle.std.proofs.Common.{◌≡◌, bytes_eq, drop}
use Rattle.std.specs.Prelude.{map}
use Rattle.std.specs.List.{list_any}
use Rattle.json_walk.proofs.shapes.is_one_of.Given as goal

abbrev pub invariant-loop-other : goal.invariant-loop-other
invariant-loop-other l = list_any (λ n. bytes_eq n l.name) (map (λ n. n.now) l.names) ≡ list_any (λ n. bytes_eq n l.name) (map (λ n. n.now) (drop l.other-index l.names))
