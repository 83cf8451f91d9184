pub mod Printed
pub mod Served
