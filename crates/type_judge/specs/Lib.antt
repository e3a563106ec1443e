pub mod Judging
pub mod Gathered
pub mod Order
pub mod Ends
