use Rattle.std.proofs.Common.{◌∙◌}
use Rattle.ts_mapping.proofs.Sets.{routing_same}
use Rattle.ts_mapping.proofs.routing.listed_places.Goals as goal

pub returns : goal.returns
returns c = c.in_ok-places.ensures ∙ routing_same c.in_ok-paths.paths c.args.entries.now c.in_ok-paths.ensures 0 c.args.all.now
