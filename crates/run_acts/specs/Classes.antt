pub mod Groups
pub mod May
pub mod Ends
