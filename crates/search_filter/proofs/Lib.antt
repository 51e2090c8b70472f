pub mod AlignedBuckets
pub mod BoolQueries
mod Examples
pub mod Grouped
pub mod Halves
pub mod SameHeads
pub mod SplitFolds
pub mod SplitKeys
pub mod SplitMatches
pub mod SplitSteps
pub mod SplitTimes
