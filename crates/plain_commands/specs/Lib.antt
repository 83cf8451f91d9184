pub mod Checked
pub mod Minted
pub mod Simulated
