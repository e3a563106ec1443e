pub mod Heaps
pub mod Texts
pub mod Refusals
pub mod Operands
pub mod Lengths
