pub mod Minting
pub mod OneSim
pub mod OneText
pub mod Simulating
pub mod Unstrayed
pub mod Verdicts
