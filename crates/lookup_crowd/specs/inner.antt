-- What the steps of the rounds owe and keep, which no promise of the lookups is made of.
pub mod Crowd
pub mod ManySteps
pub mod SettleSteps
pub mod Going
