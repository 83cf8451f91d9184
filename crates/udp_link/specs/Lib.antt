pub mod Endpoint
pub mod Held
pub mod LinkState
pub mod Waking
