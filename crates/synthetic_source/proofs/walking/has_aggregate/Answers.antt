use Rattle.std.proofs.Common.{◌∙◌, sym}
use Rattle.ts_mapping.specs.Schemas.{time_field}
use Rattle.synthetic_source.proofs.Leaves.{place_below}
use Rattle.synthetic_source.proofs.Search.{fields_rise}
use Rattle.synthetic_source.proofs.OneWalk.{stop_none, stop_some}
use Rattle.synthetic_source.proofs.walking.has_aggregate.Goals as goal

pub is_aggregate_at-requires : goal.is_aggregate_at-requires
is_aggregate_at-requires c = place_below c.args.path.now c.args.fields.now c.in-Some.at (sym c.in-Some.ensures)

pub returns-in-None : goal.returns-in-None
returns-in-None c = sym (stop_none c.args.path.now c.args.fields.now (fields_rise c.args.fields.now c.requires) (sym c.in-None.ensures))

pub returns-in-Some : goal.returns-in-Some
returns-in-Some c = c.is_aggregate_at.ensures time_field ∙ sym (stop_some c.args.path.now c.args.fields.now c.in-Some.at time_field (fields_rise c.args.fields.now c.requires) (sym c.in-Some.ensures))
