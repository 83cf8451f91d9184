pub mod WorkerSteps
pub mod Joined
mod Fronts
mod Counts
mod Bursts
mod Assignments
mod Pools
mod Whose
mod Entries
mod Telling
mod Ends
mod Sending
