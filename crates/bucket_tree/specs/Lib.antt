pub mod Stored
pub mod Partition
pub mod Rows
pub mod BucketSteps
pub mod Refills
pub mod Trees
pub mod States
