pub mod Reach
pub mod Mentioning
