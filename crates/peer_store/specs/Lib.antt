pub mod Between
pub mod Peers
pub mod PeersStep
