pub mod Placed
pub mod Tree
pub mod View
pub mod Flags
pub mod Types
pub mod Constants
pub mod Values
pub mod Forms
