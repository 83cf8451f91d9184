pub mod Settling
pub mod WorkerSteps
pub mod Together
pub mod Hand
pub mod Burst
pub mod Pool
pub mod Assignment
