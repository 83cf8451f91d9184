pub mod Orders
pub mod Least
pub mod Members
pub mod Chosen
pub mod Stays
pub mod ByByte
