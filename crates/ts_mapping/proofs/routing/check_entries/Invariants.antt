use Rattle.std.proofs.Common.{◌≡◌, [], drop}
use Rattle.ts_mapping.specs.Faults.{bad_entries}
use Rattle.ts_mapping.specs.Least.{least_with}
use Rattle.ts_mapping.proofs.routing.check_entries.Given as goal

abbrev pub invariant-loop-entry : goal.invariant-loop-entry
invariant-loop-entry l =
    least_with l.least (bad_entries l.dimensions l.before (drop l.entry-index l.entries)) ≡ least_with l.initial.least (bad_entries l.dimensions [] l.entries)
