pub mod Placed
pub mod Single
pub mod Going
pub mod Wide
pub mod Paired
pub mod Reached
pub mod Seen
