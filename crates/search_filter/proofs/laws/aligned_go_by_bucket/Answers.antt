use Rattle.search_filter.proofs.AlignedBuckets.{aligned_alike, aligned_by_bucket, aligned_by_test}
use Rattle.search_filter.proofs.laws.aligned_go_by_bucket.Goals as goal

pub returns-clause-bucket : goal.returns-clause-bucket
returns-clause-bucket c = aligned_by_bucket

pub returns-clause-alike : goal.returns-clause-alike
returns-clause-alike c = aligned_alike

pub returns-clause-test : goal.returns-clause-test
returns-clause-test c = aligned_by_test
