pub mod Actions
pub mod Items
pub mod Lent
pub mod Laws
pub mod Lines
pub mod Sound
pub mod Usual
