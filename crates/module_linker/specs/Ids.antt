pub mod Filing
pub mod Others
pub mod Constants
