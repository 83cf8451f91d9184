-- What the steps of the driver owe and keep, which no promise of a lookup is made of.
pub mod DriverInvariant
pub mod RoundSteps
