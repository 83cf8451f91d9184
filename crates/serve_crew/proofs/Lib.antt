pub mod Growing
pub mod Responding
pub mod Remembering
pub mod Untouched
