pub mod Value
pub mod Arithmetic
pub mod Division
pub mod Shift
pub mod Bitwise
pub mod Compare
pub mod Cast
pub mod Operators
