pub mod Lists
pub mod Cut
pub mod Places
pub mod Peers
pub mod Sized
