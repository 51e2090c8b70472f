pub mod Beside
pub mod Chained
mod Fit
pub mod Joined
pub mod ReadBack
pub mod Reading
pub mod Spelled
pub mod Told
