pub mod Job
pub mod Planned
pub mod ManyLooked
pub mod inner
