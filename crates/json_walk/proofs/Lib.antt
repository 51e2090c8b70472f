pub mod Ascending
pub mod Named
pub mod Walked
