pub mod Drawn
pub mod Minting
