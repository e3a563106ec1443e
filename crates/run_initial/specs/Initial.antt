pub mod Fresh
pub mod Constants
