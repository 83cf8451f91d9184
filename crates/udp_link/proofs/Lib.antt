pub mod Holding
pub mod Segments
