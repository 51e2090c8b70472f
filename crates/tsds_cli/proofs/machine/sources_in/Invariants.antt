use Rattle.std.proofs.Common.{◌≡◌, ◌++◌, ◌≤◌, ◌-◌, length, map, drop}
use Rattle.std.specs.Option.{option_map}
use Rattle.tsds_cli.specs.Documents.{sources_of}
use Rattle.tsds_cli.proofs.machine.sources_in.Given as goal

-- the sources so far, and those of the rest, are all
abbrev pub invariant-loop-at : goal.invariant-loop-at
invariant-loop-at l = record {
  within : l.at ≤ length l.parts;
  all : option_map (λ later. map (λ s. s.now) l.sources.items ++ later) (sources_of (map (λ s. s.now) (drop l.at l.parts))) ≡ sources_of (map (λ s. s.now) l.fn.parts);
}

abbrev pub decreases-loop-at : goal.decreases-loop-at
decreases-loop-at l = length l.parts - l.at
