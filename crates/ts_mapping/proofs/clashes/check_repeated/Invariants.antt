use Rattle.std.proofs.Common.{◌≡◌, ◌||◌, ℕ, List, [], drop}
use Rattle.ts_mapping.specs.Faults.{repeated}
use Rattle.ts_mapping.specs.Fields.{paths_of}
use Rattle.ts_mapping.specs.Least.{least_with}
use Rattle.ts_mapping.specs.Paths.{is_among}
use Rattle.ts_mapping.specs.Seen.{properties_seen}
use Rattle.ts_mapping.proofs.clashes.check_repeated.Given as goal

abbrev pub invariant-loop-property : goal.invariant-loop-property
invariant-loop-property l =
    let rest = paths_of (properties_seen (drop l.property-index l.properties)) in
    let all = paths_of (properties_seen l.properties) in
    record {
      told : least_with l.least (repeated l.paths rest) ≡ least_with l.initial.least (repeated [] all);
      paths : (q : List ℕ) → (is_among q l.paths || is_among q rest) ≡ is_among q all;
    }
