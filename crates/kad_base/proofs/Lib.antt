pub mod Grown
pub mod Failing
pub mod Runs
pub mod Contacts
pub mod Xors
pub mod Zeros
pub mod Happening
