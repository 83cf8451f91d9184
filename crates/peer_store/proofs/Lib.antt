pub mod Ascending
pub mod Around
pub mod Extremes
pub mod Kept
pub mod Listing
pub mod Ordered
