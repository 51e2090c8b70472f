use Rattle.time_text.specs.BucketLaws.{greatest, of_instant}
use Rattle.time_text.proofs.laws.bucket_is_greatest.Goals as goal

pub returns-clause-greatest : goal.returns-clause-greatest
returns-clause-greatest c = greatest

pub returns-clause-instant : goal.returns-clause-instant
returns-clause-instant c = of_instant
