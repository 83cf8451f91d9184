pub mod Pinging
pub mod Replying
pub mod Walking
pub mod Receiving
pub mod Trying
pub mod Wholly
pub mod Determined
