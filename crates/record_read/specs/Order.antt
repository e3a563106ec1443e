pub mod Order
pub mod Due
