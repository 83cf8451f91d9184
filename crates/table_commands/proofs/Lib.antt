pub mod OneTable
pub mod OneText
pub mod Refreshing
pub mod Tabling
