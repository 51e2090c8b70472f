-- The laws of packed lists, and the lemmas behind them.
pub mod Fronts
pub mod Decodes
pub mod Placing
pub mod Putting
pub mod Founds
pub mod Spelled
pub mod Picking
pub mod Listed
