use Rattle.std.proofs.Common.{◌≡◌, drop}
use Rattle.std.specs.Option.{option_map}
use Rattle.stream_catalog.specs.Mapped.{first_other_of, seen_other}
use Rattle.stream_catalog.proofs.mapped.first_changed.Given as goal

abbrev pub invariant-loop-at : goal.invariant-loop-at
invariant-loop-at l = option_map seen_other l.first ≡ first_other_of l.template.name l.template.schema.fields (drop l.at l.indices)
