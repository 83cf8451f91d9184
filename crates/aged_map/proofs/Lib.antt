pub mod Marking
pub mod Crowds
pub mod Telling
