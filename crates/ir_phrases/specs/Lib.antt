pub mod Constants
pub mod Instructions
