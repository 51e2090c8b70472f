pub mod Writing
pub mod Loading
pub mod Cutting
pub mod Totals
pub mod Listing
