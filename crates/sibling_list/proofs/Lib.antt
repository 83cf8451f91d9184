pub mod Listing
pub mod Retold
pub mod Equals
