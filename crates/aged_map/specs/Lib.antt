pub mod Ages
pub mod Marks
pub mod PerHost
pub mod Addressed
