pub mod JobLines
pub mod JobTexts
pub mod Several
