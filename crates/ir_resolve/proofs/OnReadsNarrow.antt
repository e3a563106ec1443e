pub mod Lists
pub mod Types
pub mod Constants
pub mod Calls
pub mod Operations
pub mod Stores
pub mod Blocks
pub mod Items
