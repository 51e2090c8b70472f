pub mod ContentsLemmas
pub mod LinesLemmas
pub mod ReadingLemmas
pub mod WindowLemmas
mod WordOrder
