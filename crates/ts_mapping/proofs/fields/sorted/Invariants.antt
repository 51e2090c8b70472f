use Rattle.std.proofs.Common.{◌≡◌, drop}
use Rattle.ts_mapping.specs.Fields.{fields_of, with_fields}
use Rattle.ts_mapping.specs.Seen.{properties_seen}
use Rattle.ts_mapping.specs.Sorted.{fields_in}
use Rattle.ts_mapping.proofs.fields.sorted.Given as goal

-- the fields so far, with those of the rest, are those of all
abbrev pub invariant-loop-property : goal.invariant-loop-property
invariant-loop-property l = with_fields (fields_in l.sorted.entries) (properties_seen (drop l.property-index l.properties)) ≡ fields_of (properties_seen l.properties)
