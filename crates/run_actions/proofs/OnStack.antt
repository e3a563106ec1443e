pub mod Frames
pub mod Changes
pub mod Calls
pub mod Weights
pub mod Assigned
pub mod Allocas
pub mod Seen
