pub mod Braces
pub mod CutLemmas
