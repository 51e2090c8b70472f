use Rattle.std.proofs.Common.{◌≡◌, drop}
use Rattle.ts_mapping.specs.Faults.{below_fault}
use Rattle.ts_mapping.specs.Fields.{paths_of}
use Rattle.ts_mapping.specs.Least.{all_faults, least_with}
use Rattle.ts_mapping.specs.Seen.{properties_seen}
use Rattle.ts_mapping.proofs.clashes.check_below.Given as goal

abbrev pub invariant-loop-property : goal.invariant-loop-property
invariant-loop-property l =
    let faults = all_faults (below_fault l.paths) in
    least_with l.least (faults (paths_of (properties_seen (drop l.property-index l.properties)))) ≡ least_with l.initial.least (faults (paths_of (properties_seen l.properties)))
