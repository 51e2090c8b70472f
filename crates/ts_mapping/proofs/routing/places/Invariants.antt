use Rattle.std.proofs.Common.{◌≡◌, ◌++◌, drop}
use Rattle.std.specs.Prelude.{option_map}
use Rattle.ts_mapping.specs.Fields.{routing_from}
use Rattle.ts_mapping.proofs.routing.places.Given as goal

abbrev pub invariant-loop-place : goal.invariant-loop-place
invariant-loop-place l =
    let entries = option_map (λ es. es.now) l.entries in
    l.places.items ++ routing_from entries l.place (drop l.place l.all) ≡ routing_from entries 0 l.all
