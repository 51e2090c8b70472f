pub mod Apart
pub mod Few
