pub mod FrontLemmas
pub mod MomentLemmas
pub mod PassLemmas
pub mod PiecesLemmas
pub mod RunLemmas
pub mod SourcesLemmas
pub mod WholeLemmas
