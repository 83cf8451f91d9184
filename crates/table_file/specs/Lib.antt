pub mod Drafts
pub mod Reading
pub mod SavedText
