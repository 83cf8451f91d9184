pub mod Asked
pub mod Commands
pub mod Endings
pub mod MadeFrom
