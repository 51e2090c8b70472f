pub mod RecordLemmas
