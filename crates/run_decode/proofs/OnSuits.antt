pub mod Listed
pub mod Paths
pub mod Asked
pub mod TypedOperands
pub mod Values
pub mod Checked
pub mod Functions
pub mod Suited
