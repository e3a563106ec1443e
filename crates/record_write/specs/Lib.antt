pub mod Order
pub mod Operands
