pub mod Cut
pub mod Groups
pub mod Lines
pub mod Text
