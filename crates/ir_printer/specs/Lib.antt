pub mod Blocks
pub mod Functions
pub mod Entries
pub mod Listed
pub mod Gathered
pub mod Phrases
pub mod Instructions
