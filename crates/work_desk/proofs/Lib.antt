pub mod Crossing
pub mod Desks
