-- Buckets of two lists of samples, while those of the second are put to those of the first.
use Rattle.std.specs.Prelude.{List, ◌++◌, Option, Some, None}
use Rattle.histogram_aggs.specs.declared.state.Bucket.{Bucket}
use Rattle.histogram_aggs.specs.Samples.{Sample}
use Rattle.histogram_aggs.specs.Stands.{Level, IsBucketOf}

-- a bucket of the first samples and one of the second that is left, or a bucket of both
abbrev pub Merged : Level → Option Bucket → Option Bucket → List Sample → List Sample → Type 0
Merged below bucket None xs ys = IsBucketOf below bucket (xs ++ ys)
Merged below bucket (Some other) xs ys = IsBucketOf below bucket xs × IsBucketOf below (Some other) ys
