pub mod Bytes
pub mod Divisors
pub mod Spreads
pub mod Unpacked
pub mod Flat
pub mod WholeSums
mod Leading
mod Level
