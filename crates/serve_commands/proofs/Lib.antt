pub mod AtOnce
pub mod OneText
pub mod Saving
pub mod Serving
