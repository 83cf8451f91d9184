pub mod Mine
pub mod Many
pub mod Errands
pub mod inner
