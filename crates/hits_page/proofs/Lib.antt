pub mod AnyOrder
pub mod Behind
pub mod Counted
pub mod Cutting
pub mod Keeping
