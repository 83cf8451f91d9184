mod Failures
pub mod Trying
