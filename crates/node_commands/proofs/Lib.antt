pub mod JobForms
pub mod JobLaws
pub mod JobTexting
pub mod Severally
