pub mod OnOrder
pub mod OnOperands
