use Rattle.ts_mapping.specs.LeastLaws.{least_is_least}
use Rattle.ts_mapping.proofs.laws.least_is_least.Goals as goal

pub returns : goal.returns
returns c = least_is_least
