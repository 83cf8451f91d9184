pub mod Tells
pub mod Rounds
pub mod LinkCalls
pub mod Gathered
pub mod Lookup
pub mod inner
