pub mod Answer
pub mod Strings
