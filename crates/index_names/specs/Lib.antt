pub mod Backing
pub mod BackingLaws
pub mod NameLaws
pub mod Names
pub mod Patterns
pub mod Reading
