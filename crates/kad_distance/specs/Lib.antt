pub mod Order
pub mod KClosest
