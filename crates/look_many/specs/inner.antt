-- What the steps of the driver owe and keep, which no promise of the lookups is made of.
pub mod Following
pub mod Serving
pub mod Seats
pub mod Going
pub mod Ends
pub mod Kept
