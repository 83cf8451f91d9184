pub mod Asking
pub mod Causes
pub mod Lawfully
pub mod OneText
