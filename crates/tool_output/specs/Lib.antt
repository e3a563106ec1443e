pub mod Outputs
pub mod Written
pub mod Writing
pub mod Ends
