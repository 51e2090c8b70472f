-- The lemmas behind the laws of blocks and of streams.
pub mod Blocks
pub mod Checks
pub mod Decodes
pub mod Layouts
pub mod Numbers
pub mod OneBlock
pub mod OneList
pub mod Reduced
pub mod Sounds
pub mod Spans
pub mod StreamBits
pub mod Sums
pub mod Walks
pub mod Words
