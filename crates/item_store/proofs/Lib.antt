pub mod Keeping
pub mod Looking
pub mod Written
