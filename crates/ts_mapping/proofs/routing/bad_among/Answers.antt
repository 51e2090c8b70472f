use Rattle.std.proofs.Common.{[], ap₂, ◌∙◌}
use Rattle.ts_mapping.specs.Fields.{dimension_paths}
use Rattle.ts_mapping.specs.Least.{fault_unless, least_with}
use Rattle.ts_mapping.proofs.Sets.{entries_are}
use Rattle.ts_mapping.proofs.routing.bad_among.Goals as goal

pub returns : goal.returns
returns c =
    let es = c.args.entries.now in
    let first = c.in_ok-note_unless.ensures ∙ ap₂ (λ h b. least_with h (fault_unless b [])) c.new-least.ensures c.are_some.ensures in
    c.into_path.ensures ∙ entries_are (dimension_paths c.args.all.now) c.in_ok-dimensions.dimensions es c.note_unless.new.self c.check_entries.new.least first c.in_ok-check_entries.ensures c.in_ok-dimensions.ensures
