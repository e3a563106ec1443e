pub mod Steps
pub mod Open
pub mod Suits
pub mod Pairs
pub mod Endings
