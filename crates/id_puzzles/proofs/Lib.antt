pub mod Drawing
pub mod Seeds
