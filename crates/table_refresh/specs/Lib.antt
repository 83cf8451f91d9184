pub mod Refreshed
pub mod inner
