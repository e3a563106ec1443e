pub mod Operands
pub mod Results
pub mod Kinds
pub mod Exact
