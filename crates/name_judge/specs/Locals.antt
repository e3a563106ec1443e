pub mod Names
pub mod Calling
pub mod Literals
