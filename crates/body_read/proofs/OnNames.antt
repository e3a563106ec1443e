pub mod Calling
pub mod Tame
pub mod Running
