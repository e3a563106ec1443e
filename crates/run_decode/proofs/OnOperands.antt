pub mod Stands
pub mod Stepped
pub mod Summed
pub mod Paired
pub mod Placed
pub mod Ended
