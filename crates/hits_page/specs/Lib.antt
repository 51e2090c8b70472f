pub mod Hits
pub mod Limits
pub mod OrderOfOffers
pub mod PageLaws
pub mod Pages
pub mod Sorts
