use Rattle.std.proofs.Common.{◌≡◌, drop}
use Rattle.ts_mapping.specs.Faults.{fails}
use Rattle.ts_mapping.specs.Least.{all_faults, least_with}
use Rattle.ts_mapping.specs.Looks.{passes}
use Rattle.ts_mapping.specs.Seen.{properties_seen}
use Rattle.ts_mapping.proofs.looks.failing.Given as goal

abbrev pub invariant-loop-property : goal.invariant-loop-property
invariant-loop-property l =
    let faults = fails (passes l.demand) in
    least_with l.least (all_faults faults (properties_seen (drop l.property-index l.properties))) ≡ least_with l.initial.least (all_faults faults (properties_seen l.properties))
