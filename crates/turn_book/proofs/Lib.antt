pub mod Lists
pub mod Shares
pub mod TurnSteps
pub mod Uses
pub mod Views
pub mod Ended
