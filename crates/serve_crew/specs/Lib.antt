pub mod Answered
pub mod Hands
pub mod Serving
pub mod Runs
pub mod Opening
