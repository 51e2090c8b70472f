pub mod BulkLemmas
pub mod Streams
pub mod UsualLines
