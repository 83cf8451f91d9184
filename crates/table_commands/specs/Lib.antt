pub mod Refreshing
pub mod Tabled
