pub mod Items
pub mod ItemSteps
