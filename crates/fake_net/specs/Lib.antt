pub mod Scripts
pub mod Searching
pub mod Network
pub mod Replies
pub mod Queue
pub mod Counting
pub mod Plays
