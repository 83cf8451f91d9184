pub mod Bound
pub mod Fitting
pub mod Grouped
pub mod Listed
pub mod Plain
pub mod Table
pub mod Taken
pub mod Values
