use Rattle.time_text.specs.BucketLaws.{nest}
use Rattle.time_text.proofs.laws.buckets_nest.Goals as goal

pub returns : goal.returns
returns c = nest
