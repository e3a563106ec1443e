pub mod Found
pub mod Kept
pub mod Lasting
pub mod Steps
pub mod TypesTold
pub mod Indexed
pub mod LeavesRead
pub mod Parts
