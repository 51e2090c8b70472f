pub mod Nums
pub mod Decoded
pub mod Found
pub mod Packing
pub mod Falling
pub mod EdgeIn
pub mod Laws
pub mod Lists
