pub mod Bodies
pub mod BodyLaws
pub mod Ends
pub mod Examples
pub mod Lifecycles
pub mod Limits
pub mod Plan
