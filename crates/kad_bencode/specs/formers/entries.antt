pub mod Dictionary
